-- `listing::join::Joining::count` meets its contract: an answer 8 is one repeat more, and the line fits, since no line of a piece is longer than 84.
use Rattle.std.proofs.Common.{◌≡◌, ℕ, ◌+◌, ap, refl, ◌==◌, ◌∙◌}
use mir.Val.{bool_byte}
use Rattle.std.specs.Prelude.{Ok, Err}
use Rattle.std.specs.Result.{result_eq}
use Rattle.std.specs.contracts.prelude.UnitPartialEq.TheImpl as UnitPartialEq
use Rattle.answers.specs.Number.{Answer, number_of}
use Rattle.answers.specs.declared.RLNCError.TheVariants.{PieceNotUseful}
use Rattle.answers.specs.contracts.RLNCErrorPartialEq.TheImpl as RLNCErrorPartialEq
use Rattle.linear.specs.Choice.{pick}
use Rattle.listing.specs.Joining.{line_of}
use Rattle.listing.proofs.Counting.{counts, counts_always}
use Rattle.listing.proofs.join.Joining.count.Goals as goal

one_repeat : (a : Answer) → bool_byte (result_eq UnitPartialEq.eq-value.it RLNCErrorPartialEq.eq-value.it a (Err PieceNotUseful)) ≡ pick (number_of a == 8) 1 0
one_repeat (Ok x) = refl
one_repeat (Err PieceNotUseful) = refl
one_repeat (Err e) = refl

pub unwrap-size-requires : goal.unwrap-size-requires
unfolding line_of
unwrap-size-requires c = counts_always c.args.self c.args.d c.args.answer c.piece_line.ensures c.requires.in_bounds

pub returns : goal.returns
unfolding line_of
returns c =
    let a = c.args in
    counts a.self a.d a.answer c.piece_line.ensures c.requires.in_bounds _ _ c.unwrap-size.ensures (ap (λ (n : ℕ). a.self.repeats + n) (c.from.ensures ∙ ap bool_byte c.eq-is_repeat.ensures ∙ one_repeat a.answer))
