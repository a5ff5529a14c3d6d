-- What the definitions choose, by the test or the answer that they choose by.
-- Assumes nothing.
use mathlib.Core.Path.{◌≡◌, refl, sym, ap, ◌∙◌}
use mathlib.Core.Bool.{Bool, true, false, not}
use Prim.Native.Nat.{ℕ, ◌<◌}
use native.Mathlib.Omega.{arith}
use borrow.Author.Tests.{not-true, not-false}
use Rattle.std.specs.Prelude.{Ok, Err}
use Rattle.answers.specs.Number.{Answer, number_of}
use Rattle.answers.specs.declared.RLNCError.TheVariants.{BadState}
use Rattle.linear.specs.Choice.{pick}
use Rattle.block.specs.Counts.{counted}

-- an order of refusals, from its end
pub passes : (t : Bool) (a b : Answer) → 0 < number_of a → pick t a b ≡ Ok tt → (t ≡ false) × (b ≡ Ok tt)
passes true a b n e = let z : number_of a ≡ 0 = ap number_of e in absurd (omega arith)
passes false a b n e = (refl, e)

-- what `Judged::admit` lets through is not in a bad state
pub admitted : (bad : Bool) {a : Answer} → a ≡ pick bad (Err BadState) (Ok tt) → a ≡ Ok tt → bad ≡ false
admitted bad p o = (passes bad (Err BadState) (Ok tt) (omega arith) (sym p ∙ o)).0

-- where a test `!self.holds(..)` is false
pub accepts : (bad : Bool) {t : Bool} → t ≡ not bad → not t ≡ false → bad ≡ false
accepts bad {t} e h = not-true bad (sym e ∙ not-false t h)

-- Named in docs/PORT.md; no proof here cites them.

pub counts : {t : Bool} (n : ℕ) → t ≡ true → Ok n ≡ counted t n
unfolding counted
counts n e = rw e refl

pub counts_not : {t : Bool} (n : ℕ) → t ≡ false → Err BadState ≡ counted t n
unfolding counted
counts_not n e = rw e refl

-- where a test `!self.holds(..)` is true
pub refuses : (bad : Bool) {t : Bool} → t ≡ not bad → not t ≡ true → bad ≡ true
refuses bad {t} e h = not-false bad (sym e ∙ not-true t h)
