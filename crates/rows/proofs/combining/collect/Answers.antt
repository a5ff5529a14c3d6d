-- `rows::combining::collect`: a turn stores the start of row j, and counts it where its number has the bit.
use Rattle.std.proofs.Common.{◌≡◌, ℕ, ◌+◌, ◌*◌, ◌/◌, ◌%◌, ◌^◌, length, get_or, set, take, [], ◌∷◌, ◌++◌, subst, arith, length-take-le}
use Rattle.std.proofs.lemmas.List.{take_more}
use Rattle.rows.specs.Chosen.{Collected}
use Rattle.rows.proofs.ChosenLaws.{collects_none, collects_more}
use Rattle.rows.proofs.combining.collect.Goals as goal

pub loop-j-init : goal.loop-j-init
loop-j-init c = record { few = omega arith; collected = collects_none _ _ }

pub loop-j-preserved : goal.loop-j-preserved
loop-j-preserved c =
    let a = c.args in
    let l = c.loop-j in
    let x = get_or a.numbers.now l.j 0 in
    let d = x / 2 ^ a.bit % 2 in
    let size : length (take l.j a.numbers.now) ≡ l.j = length-take-le l.j a.numbers.now (omega arith) in
    record {
      few = omega (arith, l.invariant.few);
      collected =
          rw (c.from-n.ensures, take_more a.numbers.now l.j 0 (omega arith))
          (subst (λ (n : ℕ). Collected a.bit a.width (take l.j a.numbers.now ++ (x ∷ [])) (take (l.n + d) (set l.starts l.n (n * a.width)))) size
          (collects_more a.bit a.width l.starts l.n x l.invariant.collected (omega (arith, l.invariant.few))));
    }
