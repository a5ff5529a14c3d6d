-- Products with 0 and with 1, and the inverse of 1, as `mul_const` and `inv` answer them with no table.
-- Assumes nothing.
use mathlib.Core.Path.{◌≡◌, sym, ap, ap₂, ◌∙◌}
use Prim.Native.Nat.{ℕ, ◌-◌, ◌*◌, ◌/◌, ◌%◌, ◌≤◌, ◌<◌}
use native.Mathlib.Omega.{arith}
use Rattle.std.specs.Prelude.{Some}
use Rattle.galois.specs.Gf.{◌⊕◌, xtime, mul, inv as inverse}
use Rattle.galois.specs.Quotient.{inverse_of}
use Rattle.galois.proofs.Divided.{inverse_some}
use Rattle.galois.proofs.Pow.{pow_one}
use Rattle.galois.proofs.Mul.{zero_mul, mul_zero, mul_one, mul_two, mul_x}
use Rattle.gf256.specs.Fips197.{polynomial}
use Rattle.gf256.proofs.Known.{tables}

pub zero_left : (a b : ℕ) → a ≡ 0 → mul polynomial a b ≡ 0
zero_left a b e = ap (λ (x : ℕ). mul polynomial x b) e ∙ zero_mul polynomial b

pub zero_right : (a b : ℕ) → b ≡ 0 → mul polynomial a b ≡ 0
zero_right a b e = ap (mul polynomial a) e ∙ mul_zero polynomial a

pub one_right : (a b : ℕ) → a < 256 → b ≡ 1 → mul polynomial a b ≡ a
one_right a b l e = ap (mul polynomial a) e ∙ mul_one polynomial a l

pub inverse_one : (a : ℕ) → a ≡ 1 → Some 1 ≡ inverse_of (inverse polynomial) a
unfolding inverse
inverse_one a e = inverse_some (inverse polynomial) a 1 (omega arith) (sym (ap (inverse polynomial) e ∙ pow_one polynomial tables.small 254))

-- twice a byte below 128 stays a byte; from 128 on its x^8 goes, and the polynomial stands for it
pub times_x_low : (a : ℕ) → a < 128 → a * 2 ≡ mul polynomial 2 a
times_x_low a h = sym (mul_x polynomial a h)

pub times_x_high : (a : ℕ) → 128 ≤ a → a < 256 → (a - 128) * 2 ⊕ polynomial ≡ mul polynomial 2 a
unfolding xtime
times_x_high a h l = sym (mul_two polynomial a l ∙ carried (omega arith) (omega arith))
  where
    carried : a / 128 % 2 ≡ 1 → a * 2 % 256 ≡ (a - 128) * 2 → xtime polynomial a ≡ (a - 128) * 2 ⊕ polynomial
    carried e d = ap₂ (λ (x y : ℕ). x ⊕ y * polynomial) d e
