-- A field on the bytes, 0 to 255, whose sum is exclusive or: the operations and the laws that every layer above is stated over, and no more.
-- The product reads the 8 low bits of each factor, so its laws hold of all numbers; only one and the inverse ask for bytes.
use Rattle.std.specs.Prelude.{◌≡◌, ℕ, ◌*◌, ◌<◌}
use Rattle.galois.specs.Gf.{◌⊕◌}

pub record FieldLaws : Type 0 where
  pub mul : ℕ → ℕ → ℕ
  pub inv : ℕ → ℕ
  pub mul_lt : (a b : ℕ) → mul a b < 256
  pub mul_assoc : (a b c : ℕ) → mul (mul a b) c ≡ mul a (mul b c)
  pub mul_comm : (a b : ℕ) → mul a b ≡ mul b a
  pub mul_⊕ : (a b c : ℕ) → mul a (b ⊕ c) ≡ mul a b ⊕ mul a c
  pub mul_one : (a : ℕ) → a < 256 → mul a 1 ≡ a
  -- x is 2: where no x^8 falls out, it doubles
  pub mul_x : (a : ℕ) → a < 128 → mul 2 a ≡ a * 2
  pub inv_lt : (a : ℕ) → inv a < 256
  pub mul_inv : (a : ℕ) → 0 < a → a < 256 → mul a (inv a) ≡ 1
