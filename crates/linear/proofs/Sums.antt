-- Sums and multiples of rows go entry by entry. An entry behind the end of a row reads as 0, so that few of the laws ask for a range.
-- Assumes nothing.
use mathlib.Core.Path.{◌≡◌, refl, sym, ap, ap₂, ◌∙◌, subst}
use mathlib.Core.Logic.{◌≢◌}
use mathlib.Core.List.{List, [], ◌∷◌}
use Prim.Native.Nat.{ℕ, zero, suc, ◌≤◌, ◌<◌}
use native.Mathlib.Omega.{arith}
use lib.ListN.{length, get_or, get_or-eq_default}
use Rattle.galois.specs.Gf.{◌⊕◌}
use Rattle.galois.specs.FieldLaws.{FieldLaws}
use Rattle.galois.proofs.Sum.{⊕_zero, ⊕_byte, ⊕_twice}
use Rattle.galois.proofs.Field.{mul_zero, one_mul, clears}
use Rattle.linear.specs.All.{Bytes}
use Rattle.linear.specs.Rows.{add_multiple, scale_row, clear_by}
use Rattle.linear.proofs.All.{all_head, all_tail}

module _ (𝓕 : FieldLaws) where
  pub add_nil : (q : ℕ) (src : List ℕ) → add_multiple 𝓕 q src [] ≡ []
  unfolding add_multiple
  add_nil q [] = refl
  add_nil q (s ∷ src) = refl

  pub length_add : (q : ℕ) (src dst : List ℕ) → length (add_multiple 𝓕 q src dst) ≡ length dst
  unfolding add_multiple
  length_add q [] dst = refl
  length_add q (s ∷ src) [] = refl
  length_add q (s ∷ src) (d ∷ dst) = ap suc (length_add q src dst)

  -- a multiple added twice
  pub add_twice : (q : ℕ) (src dst : List ℕ) → add_multiple 𝓕 q src (add_multiple 𝓕 q src dst) ≡ dst
  unfolding add_multiple
  add_twice q [] dst = refl
  add_twice q (s ∷ src) [] = refl
  add_twice q (s ∷ src) (d ∷ dst) = ap₂ (λ (x : ℕ) (l : List ℕ). x ∷ l) (⊕_twice d (𝓕.mul q s)) (add_twice q src dst)

  -- an entry of a sum, or none
  add_cases : (P : ℕ → Type 0) (q : ℕ) (src dst : List ℕ) (c : ℕ) → P (get_or dst c 0 ⊕ 𝓕.mul q (get_or src c 0)) → (length dst ≤ c → P 0)
      → P (get_or (add_multiple 𝓕 q src dst) c 0)
  unfolding add_multiple
  add_cases P q [] dst c y n = subst P (ap (λ (x : ℕ). get_or dst c 0 ⊕ x) (mul_zero 𝓕 q) ∙ ⊕_zero (get_or dst c 0)) y
  add_cases P q (s ∷ src) [] c y n = n (omega arith)
  add_cases P q (s ∷ src) (d ∷ dst) zero y n = y
  add_cases P q (s ∷ src) (d ∷ dst) (suc c) y n = add_cases P q src dst c y (λ h. n (omega arith))

  pub add_entry : (q : ℕ) (src dst : List ℕ) (c : ℕ) → length src ≡ length dst
      → get_or (add_multiple 𝓕 q src dst) c 0 ≡ get_or dst c 0 ⊕ 𝓕.mul q (get_or src c 0)
  add_entry q src dst c l =
      add_cases (λ x. x ≡ get_or dst c 0 ⊕ 𝓕.mul q (get_or src c 0)) q src dst c refl
      (λ h. let s : length src ≤ c = omega arith in rw (get_or-eq_default src 0 s, get_or-eq_default dst 0 h, mul_zero 𝓕))

  pub add_byte : (q : ℕ) (src dst : List ℕ) (c : ℕ) → get_or dst c 0 < 256 → get_or (add_multiple 𝓕 q src dst) c 0 < 256
  add_byte q src dst c h =
      add_cases (λ x. x < 256) q src dst c (⊕_byte (get_or dst c 0) (𝓕.mul q (get_or src c 0)) h (𝓕.mul_lt q (get_or src c 0))) (λ l. omega arith)

  pub add_keeps : (q : ℕ) (src dst : List ℕ) (c : ℕ) → get_or src c 0 ≡ 0 → get_or (add_multiple 𝓕 q src dst) c 0 ≡ get_or dst c 0
  add_keeps q src dst c h =
      add_cases (λ x. x ≡ get_or dst c 0) q src dst c (rw (h, mul_zero 𝓕) (⊕_zero (get_or dst c 0))) (λ l. sym (get_or-eq_default dst 0 l))

  pub clear_clears : (c : ℕ) (p r : List ℕ) → get_or r c 0 < 256 → get_or p c 0 < 256 → get_or p c 0 ≢ 0 → get_or (clear_by 𝓕 c p r) c 0 ≡ 0
  unfolding clear_by
  clear_clears c p r hr hp np = add_cases (λ x. x ≡ 0) _ p r c (clears 𝓕 (get_or r c 0) (get_or p c 0) hr (omega arith) hp) (λ l. refl)

  pub clear_nil : (c : ℕ) (p : List ℕ) → clear_by 𝓕 c p [] ≡ []
  unfolding clear_by
  clear_nil c p = add_nil (𝓕.mul 0 (𝓕.inv (get_or p c 0))) p

  pub scale_nil : (q : ℕ) → scale_row 𝓕 q [] ≡ []
  unfolding scale_row
  scale_nil q = refl

  pub length_scale : (q : ℕ) (r : List ℕ) → length (scale_row 𝓕 q r) ≡ length r
  unfolding scale_row
  length_scale q [] = refl
  length_scale q (x ∷ xs) = ap suc (length_scale q xs)

  pub scale_entry : (q : ℕ) (r : List ℕ) (c : ℕ) → get_or (scale_row 𝓕 q r) c 0 ≡ 𝓕.mul q (get_or r c 0)
  unfolding scale_row
  scale_entry q [] c = sym (mul_zero 𝓕 q)
  scale_entry q (x ∷ xs) zero = refl
  scale_entry q (x ∷ xs) (suc c) = scale_entry q xs c

  -- what the inverse scaled, the number scales back
  pub scale_back : (p : ℕ) (r : List ℕ) → 0 < p → p < 256 → Bytes r → scale_row 𝓕 p (scale_row 𝓕 (𝓕.inv p) r) ≡ r
  unfolding scale_row
  scale_back p [] np hp h = refl
  scale_back p (x ∷ xs) np hp h =
      ap₂ (λ (y : ℕ) (l : List ℕ). y ∷ l)
      (sym (𝓕.mul_assoc p (𝓕.inv p) x) ∙ ap (λ (y : ℕ). 𝓕.mul y x) (𝓕.mul_inv p np hp) ∙ one_mul 𝓕 x (all_head h))
      (scale_back p xs np hp (all_tail h))
