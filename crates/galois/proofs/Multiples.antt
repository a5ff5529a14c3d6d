-- A product is the sum of the multiples that the other factor's bits choose: the product is linear, and a byte is the sum of its bits.
-- Assumes nothing.
use mathlib.Core.Path.{◌≡◌, sym, ap, ap₂, ◌∙◌}
use mathlib.Core.List.{List, [], ◌∷◌}
use Prim.Native.Nat.{ℕ, zero, suc, ◌*◌, ◌/◌, ◌%◌, ◌^◌, ◌<◌}
use native.Mathlib.Nat.{mod-one, mod-eq_of_lt, pow-suc}
use native.Mathlib.Nat as nat
use Rattle.galois.specs.Gf.{◌⊕◌}
use Rattle.galois.specs.FieldLaws.{FieldLaws}
use Rattle.galois.specs.Multiples.{multiples_of}
use Rattle.galois.proofs.Sum.{⊕_shl, low_bits, digit, digit_through}
use Rattle.galois.proofs.Field.{mul_zero, mul_left_comm}

-- the sum of those multiples whose bit is set in b, the lowest bit first
unfoldable pub chosen : List ℕ → ℕ → ℕ
chosen [] b = 0
chosen (m ∷ ms) b = (b % 2 * m) ⊕ chosen ms (b / 2)

-- the n multiples by w, 2w, 4w, ..
doubling : FieldLaws → ℕ → ℕ → ℕ → List ℕ
doubling F q zero w = []
doubling F q (suc n) w = F.mul q w ∷ doubling F q n (w * 2)

module _ (F : FieldLaws) (q : ℕ) where
  -- the n low bits of b, times 2^i
  by_doubling : (n i b : ℕ) → chosen (doubling F q n (2 ^ i)) b ≡ F.mul q (b % 2 ^ n * 2 ^ i)
  unfolding chosen doubling
  by_doubling zero i b = sym (ap (F.mul q) (ap (λ (x : ℕ). x * 2 ^ i) (mod-one b) ∙ nat.zero-mul (2 ^ i)) ∙ mul_zero F q)
  by_doubling (suc n) i b =
      ap₂ (λ (x y : ℕ). x ⊕ y) (sym (digit_through (F.mul q) (mul_zero F q) (b % 2) (2 ^ i) (digit b)))
      (ap (λ (w : ℕ). chosen (doubling F q n w) (b / 2)) (sym (pow-suc 2 i)) ∙ by_doubling n (suc i) (b / 2))
      ∙ sym (F.mul_⊕ q (b % 2 * 2 ^ i) (b / 2 % 2 ^ n * 2 ^ suc i))
      ∙ ap (F.mul q) shifted
    where
      shifted : b % 2 * 2 ^ i ⊕ b / 2 % 2 ^ n * 2 ^ suc i ≡ b % 2 ^ suc n * 2 ^ i
      shifted =
          ap (λ (x : ℕ). b % 2 * 2 ^ i ⊕ x)
          (ap (λ (x : ℕ). b / 2 % 2 ^ n * x) (pow-suc 2 i ∙ nat.mul_comm (2 ^ i) 2) ∙ sym (nat.mul_assoc (b / 2 % 2 ^ n) 2 (2 ^ i)))
          ∙ sym (⊕_shl (b % 2) (b / 2 % 2 ^ n * 2) i) ∙ ap (λ (x : ℕ). x * 2 ^ i) (sym (low_bits n b))

  pub by_bits : (b : ℕ) → b < 256 → chosen (multiples_of F q) b ≡ F.mul q b
  unfolding multiples_of doubling
  by_bits b h = by_doubling 8 0 b ∙ ap (F.mul q) (nat.mul-one (b % 256) ∙ mod-eq_of_lt h)

-- ---- one multiple after the other

module _ (F : FieldLaws) where
  -- the next of the multiples of q
  pub next_multiple : (q w : ℕ) → w < 128 → F.mul q (w * 2) ≡ F.mul 2 (F.mul q w)
  next_multiple q w h = ap (F.mul q) (sym (F.mul_x w h)) ∙ mul_left_comm F q 2 w
