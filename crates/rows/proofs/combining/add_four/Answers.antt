-- `rows::combining::add_four`: the four starts are all there are.
use Rattle.std.proofs.Common.{◌≡◌, length, arith, ◌∙◌, rules}
use Rattle.rows.proofs.ChosenLaws.{four_added}
use Rattle.rows.proofs.combining.add_four.Goals as goal

pub returns : goal.returns
returns c =
    let a = c.args in
    let four : length a.starts ≡ 4 = search rules in
    λ i h. c.loop-i.invariant.done i (omega arith) ∙ four_added a.rows.now i _ a.starts four
