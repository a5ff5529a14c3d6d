-- What an entry answered tells its refusal: none where there is a value, and where there is an error, that one.
-- Assumes nothing.
use mathlib.Core.Path.{◌≡◌, refl, ap}
use Prim.Native.Nat.{ℕ}
use native.Mathlib.Omega.{arith}
use Rattle.std.specs.Prelude.{Ok, Err}
use Rattle.answers.specs.Number.{Answer}
use Rattle.answers.specs.declared.RLNCError.{RLNCError}
use Rattle.block.specs.Refusal.{answered}

module _ {A : Type 0} where
  pub with_value : {x y : A} (a : Answer) → Ok y ≡ answered a x → (a ≡ Ok tt) × (y ≡ x)
  with_value (Ok z) e = (refl, cc)
  with_value (Err b) e = let z : ◌≡◌ {A = ℕ} 0 1 = cc in absurd (omega arith)

  pub with_error : (a : Answer) (x : A) {b : RLNCError} → Err b ≡ answered a x → a ≡ Err b
  with_error (Ok z) x e = let z : ◌≡◌ {A = ℕ} 0 1 = cc in absurd (omega arith)
  with_error (Err c) x e = ap Err cc
