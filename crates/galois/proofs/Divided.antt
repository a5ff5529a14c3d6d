-- The answers of an inverse and of a quotient, case by case.
-- Assumes nothing.
use mathlib.Core.Path.{◌≡◌, refl, ap}
use Prim.Native.Nat.{ℕ, zero, suc, ◌<◌}
use native.Mathlib.Nat.{not-suc-le-zero, suc-ne-zero}
use Rattle.galois.specs.Quotient.{inverse_of, quotient_of}
use Rattle.std.specs.Prelude.{None, Some}

module _ (inv : ℕ → ℕ) where
  pub inverse_none : (a : ℕ) → a ≡ 0 → None ≡ inverse_of inv a
  unfolding inverse_of
  inverse_none zero z = refl
  inverse_none (suc a) z = absurd (suc-ne-zero a z)

  pub inverse_some : (a r : ℕ) → 0 < a → r ≡ inv a → Some r ≡ inverse_of inv a
  unfolding inverse_of
  inverse_some zero r h e = absurd (not-suc-le-zero h)
  inverse_some (suc a) r h e = ap Some e

-- a quotient, from what the inverse of the divisor answers
module _ (mul : ℕ → ℕ → ℕ) (inv : ℕ → ℕ) where
  pub quotient_none : (a b : ℕ) → inverse_of inv b ≡ None → None ≡ quotient_of mul inv a b
  unfolding inverse_of quotient_of
  quotient_none a zero e = refl
  quotient_none a (suc b) e = cc

  pub quotient_some : (a b i r : ℕ) → inverse_of inv b ≡ Some i → r ≡ mul a i → Some r ≡ quotient_of mul inv a b
  unfolding inverse_of quotient_of
  quotient_some a zero i r e q = cc
  quotient_some a (suc b) i r e q = cc
