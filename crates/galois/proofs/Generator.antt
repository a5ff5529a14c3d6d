-- A polynomial with a generator, a byte g whose powers are all the nonzero bytes, makes a field: every nonzero byte is a power of g, so that its
-- 255th power is 1 and its 254th the inverse.
-- Assumes nothing.
use mathlib.Core.Path.{◌≡◌, sym, ap, ◌∙◌, subst}
use mathlib.Core.Logic.{◌↔◌}
use Prim.Native.Nat.{ℕ, ◌<◌}
use native.Mathlib.Nat as nat
use Rattle.galois.specs.Gf.{mul, pow, inv, Inverse}
use Rattle.galois.specs.FieldLaws.{FieldLaws}
use Rattle.galois.proofs.Mul.{mul_comm, mul_assoc, mul_⊕, mul_one, mul_x, mul_lt}
use Rattle.galois.proofs.Pow.{pow_more, pow_lt, pow_one, pow_product}
use Rattle.galois.proofs.Field.{inv_unique}

module _ (p : ℕ) (hp : p < 256) (g : ℕ) (cycle : pow p g 255 ≡ 1)
    (log : ℕ → ℕ) (is_log : (a : ℕ) → 0 < a → a < 256 → pow p g (log a) ≡ a) where
  last_power : (a : ℕ) → 0 < a → a < 256 → pow p a 255 ≡ 1
  last_power a h l =
      ap (λ (x : ℕ). pow p x 255) (sym (is_log a h l)) ∙ sym (pow_product p hp g (log a) 255) ∙ ap (pow p g) (nat.mul_comm 255 (log a))
      ∙ pow_product p hp g 255 (log a) ∙ ap (λ (x : ℕ). pow p x (log a)) cycle ∙ pow_one p hp (log a)

  pub mul_inv : (a : ℕ) → 0 < a → a < 256 → mul p a (inv p a) ≡ 1
  unfolding inv
  mul_inv a h l = sym (pow_more p hp a 254) ∙ last_power a h l

  pub inv_lt : (a : ℕ) → inv p a < 256
  unfolding inv
  inv_lt a = pow_lt p hp a 254

  abbrev pub field_of : FieldLaws
  field_of =
      record {
        mul = mul p;
        inv = inv p;
        mul_lt = mul_lt p hp;
        mul_assoc = mul_assoc p hp;
        mul_comm = mul_comm p;
        mul_⊕ = mul_⊕ p;
        mul_one = mul_one p;
        mul_x = mul_x p;
        inv_lt = inv_lt;
        mul_inv = mul_inv;
      }

  -- each nonzero byte has an inverse, and exactly one
  pub inverse_exactly : (a b : ℕ) → 0 < a → a < 256 → Inverse p a b ↔ (b ≡ inv p a)
  inverse_exactly a b pos h =
      (λ x. inv_unique field_of a b h x.byte x.one, λ e. subst (Inverse p a) (sym e) (record { byte = inv_lt a; one = mul_inv a pos h }))
