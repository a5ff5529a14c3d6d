-- What the row rules do at each place of a row, over any field, and what a factor of 0 or 1 does.
-- Assumes nothing.
use mathlib.Core.Path.{◌≡◌, refl, sym, ap, ◌∙◌}
use mathlib.Core.List.{List, [], ◌∷◌}
use Prim.Native.Nat.{ℕ, zero, suc, ◌<◌}
use native.Mathlib.Nat.{le_of_suc-le-suc, not-suc-le-zero}
use lib.ListN.{length, get_or, replicate}
use Rattle.galois.specs.Gf.{◌⊕◌}
use Rattle.galois.specs.FieldLaws.{FieldLaws}
use Rattle.galois.proofs.Sum.{⊕_zero}
use Rattle.galois.proofs.Field.{zero_mul, one_mul}
use Rattle.linear.specs.Rows.{add_multiple, scale_row}
use Rattle.rows.specs.Outcomes.{add_row}

pub length_sum : (src dst : List ℕ) → length (add_row src dst) ≡ length dst
unfolding add_row
length_sum [] dst = refl
length_sum (s ∷ src) [] = refl
length_sum (s ∷ src) (d ∷ dst) = ap suc (length_sum src dst)

pub get_or_sum : (src dst : List ℕ) (i : ℕ) → i < length src → i < length dst → get_or (add_row src dst) i 0 ≡ get_or dst i 0 ⊕ get_or src i 0
unfolding add_row
get_or_sum [] dst i h k = absurd (not-suc-le-zero h)
get_or_sum (s ∷ src) [] i h k = absurd (not-suc-le-zero k)
get_or_sum (s ∷ src) (d ∷ dst) zero h k = refl
get_or_sum (s ∷ src) (d ∷ dst) (suc i) h k = get_or_sum src dst i (le_of_suc-le-suc h) (le_of_suc-le-suc k)

module _ (𝓕 : FieldLaws) where
  -- Named in docs/PORT.md; no proof here cites it.
  pub get_or_added : (q : ℕ) (src dst : List ℕ) (i : ℕ) → i < length src → i < length dst
      → get_or (add_multiple 𝓕 q src dst) i 0 ≡ get_or dst i 0 ⊕ 𝓕.mul q (get_or src i 0)
  unfolding add_multiple
  get_or_added q [] dst i h k = absurd (not-suc-le-zero h)
  get_or_added q (s ∷ src) [] i h k = absurd (not-suc-le-zero k)
  get_or_added q (s ∷ src) (d ∷ dst) zero h k = refl
  get_or_added q (s ∷ src) (d ∷ dst) (suc i) h k = get_or_added q src dst i (le_of_suc-le-suc h) (le_of_suc-le-suc k)

  pub added_zero : (src dst : List ℕ) → add_multiple 𝓕 0 src dst ≡ dst
  unfolding add_multiple
  added_zero [] dst = refl
  added_zero (s ∷ src) [] = refl
  added_zero (s ∷ src) (d ∷ dst) = λ i. (ap (λ (x : ℕ). d ⊕ x) (zero_mul 𝓕 s) ∙ ⊕_zero d) i ∷ added_zero src dst i

  pub scaled_zero : (xs : List ℕ) → replicate (length xs) 0 ≡ scale_row 𝓕 0 xs
  unfolding scale_row
  scaled_zero [] = refl
  scaled_zero (x ∷ xs) = λ i. sym (zero_mul 𝓕 x) i ∷ scaled_zero xs i

  -- one times a row of bytes is that row
  pub added_one : (src dst : List ℕ) → ((i : ℕ) → get_or src i 0 < 256) → add_multiple 𝓕 1 src dst ≡ add_row src dst
  unfolding add_multiple add_row
  added_one [] dst b = refl
  added_one (s ∷ src) [] b = refl
  added_one (s ∷ src) (d ∷ dst) b = λ i. (d ⊕ one_mul 𝓕 s (b 0) i) ∷ added_one src dst (λ k. b (suc k)) i

  pub scaled_one : (xs : List ℕ) → ((i : ℕ) → get_or xs i 0 < 256) → scale_row 𝓕 1 xs ≡ xs
  unfolding scale_row
  scaled_one [] b = refl
  scaled_one (x ∷ xs) b = λ i. one_mul 𝓕 x (b 0) i ∷ scaled_one xs (λ k. b (suc k)) i
