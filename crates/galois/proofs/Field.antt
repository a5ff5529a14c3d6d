-- What follows from the laws of any field on the bytes: zero's products, one inverse for each nonzero byte, no zero divisors, and what row
-- reduction asks for.
-- Assumes nothing.
use mathlib.Core.Path.{◌≡◌, sym, ap, ap₂, ◌∙◌}
use mathlib.Core.Logic.{◌⊎◌, inl, inr}
use Prim.Native.Nat.{ℕ, ◌<◌}
use native.Mathlib.Nat.{eq-zero-or-pos}
use native.Mathlib.Omega.{arith}
use lib.Dec.{lit<}
use Rattle.galois.specs.Gf.{◌⊕◌}
use Rattle.galois.specs.FieldLaws.{FieldLaws}
use Rattle.galois.proofs.Sum.{⊕_self}

module _ (F : FieldLaws) where
  pub mul_zero : (a : ℕ) → F.mul a 0 ≡ 0
  mul_zero a = F.mul_⊕ a 0 0 ∙ ⊕_self (F.mul a 0)

  pub zero_mul : (a : ℕ) → F.mul 0 a ≡ 0
  zero_mul a = F.mul_comm 0 a ∙ mul_zero a

  pub one_mul : (a : ℕ) → a < 256 → F.mul 1 a ≡ a
  one_mul a h = F.mul_comm 1 a ∙ F.mul_one a h

  pub ⊕_mul : (a b c : ℕ) → F.mul (a ⊕ b) c ≡ F.mul a c ⊕ F.mul b c
  ⊕_mul a b c = F.mul_comm (a ⊕ b) c ∙ F.mul_⊕ c a b ∙ ap₂ (λ (x y : ℕ). x ⊕ y) (F.mul_comm c a) (F.mul_comm c b)

  pub mul_left_comm : (a b c : ℕ) → F.mul a (F.mul b c) ≡ F.mul b (F.mul a c)
  mul_left_comm a b c = sym (F.mul_assoc a b c) ∙ ap (λ (x : ℕ). F.mul x c) (F.mul_comm a b) ∙ F.mul_assoc b a c

  -- what a nonzero byte multiplied, its inverse gives back
  mul_back : (a b : ℕ) → 0 < a → a < 256 → b < 256 → F.mul (F.inv a) (F.mul a b) ≡ b
  mul_back a b ha la lb =
      sym (F.mul_assoc (F.inv a) a b) ∙ ap (λ (x : ℕ). F.mul x b) (F.mul_comm (F.inv a) a ∙ F.mul_inv a ha la) ∙ one_mul b lb

  pub mul_cancel : (a b c : ℕ) → 0 < a → a < 256 → b < 256 → c < 256 → F.mul a b ≡ F.mul a c → b ≡ c
  mul_cancel a b c ha la lb lc e = sym (mul_back a b ha la lb) ∙ ap (F.mul (F.inv a)) e ∙ mul_back a c ha la lc

  pub inv_unique : (a b : ℕ) → a < 256 → b < 256 → F.mul a b ≡ 1 → b ≡ F.inv a
  inv_unique a b la lb e = go (eq-zero-or-pos a)
    where
      go : (a ≡ 0) ⊎ (0 < a) → b ≡ F.inv a
      go (inl z) =
          let never : ◌≡◌ {A = ℕ} 0 1 = sym (zero_mul b) ∙ ap (λ (x : ℕ). F.mul x b) (sym z) ∙ e in
          absurd (omega arith)
      go (inr h) = mul_cancel a b (F.inv a) h la lb (F.inv_lt a) (e ∙ sym (F.mul_inv a h la))

  pub no_zero_divisors : (a b : ℕ) → a < 256 → b < 256 → F.mul a b ≡ 0 → (a ≡ 0) ⊎ (b ≡ 0)
  no_zero_divisors a b la lb e = go (eq-zero-or-pos a)
    where
      go : (a ≡ 0) ⊎ (0 < a) → (a ≡ 0) ⊎ (b ≡ 0)
      go (inl z) = inl z
      go (inr h) = inr (mul_cancel a b 0 h la lb (lit< tt) (e ∙ sym (mul_zero a)))

  -- d plus (d over p) times p: what clears an entry
  pub clears : (d p : ℕ) → d < 256 → 0 < p → p < 256 → d ⊕ F.mul (F.mul d (F.inv p)) p ≡ 0
  clears d p hd np hp =
      ap (λ (x : ℕ). d ⊕ x)
      (F.mul_assoc d (F.inv p) p ∙ ap (F.mul d) (F.mul_comm (F.inv p) p ∙ F.mul_inv p np hp) ∙ F.mul_one d hd)
      ∙ ⊕_self d

  -- of any number, byte or not: it acts as zero does, or it has an inverse
  pub zero_or_unit : (a : ℕ) → ((b : ℕ) → b < 256 → F.mul a b ≡ 0) ⊎ ((u : ℕ) × (F.mul a u ≡ 1))
  zero_or_unit a = go (eq-zero-or-pos (F.mul a 1))
    where
      at_one : (b : ℕ) → b < 256 → F.mul (F.mul a 1) b ≡ F.mul a b
      at_one b h = F.mul_assoc a 1 b ∙ ap (F.mul a) (one_mul b h)

      go : (F.mul a 1 ≡ 0) ⊎ (0 < F.mul a 1) → ((b : ℕ) → b < 256 → F.mul a b ≡ 0) ⊎ ((u : ℕ) × (F.mul a u ≡ 1))
      go (inl e) = inl (λ b h. sym (at_one b h) ∙ ap (λ (x : ℕ). F.mul x b) e ∙ zero_mul b)
      go (inr n) = inr (F.mul 1 (F.inv (F.mul a 1)), sym (F.mul_assoc a 1 (F.inv (F.mul a 1))) ∙ F.mul_inv (F.mul a 1) n (F.mul_lt a 1))
