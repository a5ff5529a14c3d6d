-- `dot` is linear in the row, since the product is linear in each factor; a row of zeros gives 0, and row i of the identity gives entry i.
-- Assumes nothing.
use mathlib.Core.Path.{◌≡◌, refl, sym, ap, ap₂, ◌∙◌}
use mathlib.Core.Logic.{◌≢◌}
use mathlib.Core.List.{List, [], ◌∷◌}
use Prim.Native.Nat.{ℕ, zero, suc, ◌<◌}
use native.Mathlib.Nat.{not-suc-le-zero}
use native.Mathlib.Omega.{arith}
use lib.ListN.{length, get_or, take, replicate}
use lib.Seq.{take_all}
use Rattle.galois.specs.Gf.{◌⊕◌}
use Rattle.galois.specs.FieldLaws.{FieldLaws}
use Rattle.galois.proofs.Sum.{⊕_zero, zero_⊕, ⊕_byte, ⊕_middle}
use Rattle.galois.proofs.Field.{mul_zero, zero_mul, one_mul, ⊕_mul}
use Rattle.linear.specs.All.{Bytes}
use Rattle.linear.specs.Rows.{add_multiple, scale_row}
use Rattle.linear.specs.Pieces.{dot}
use Rattle.linear.specs.Engine.{Empty}
use Rattle.linear.proofs.All.{all_head, all_tail, zeros_entry}

module _ (𝓕 : FieldLaws) where
  pub dot_byte : (r v : List ℕ) → dot 𝓕 r v < 256
  unfolding dot
  dot_byte [] v = omega arith
  dot_byte (x ∷ r) [] = omega arith
  dot_byte (x ∷ r) (y ∷ v) = ⊕_byte (𝓕.mul x y) (dot 𝓕 r v) (𝓕.mul_lt x y) (dot_byte r v)

  -- the first k products are those of the first k entries of either
  pub dot_take : (k : ℕ) (r v : List ℕ) → dot 𝓕 (take k r) v ≡ dot 𝓕 r (take k v)
  unfolding dot
  dot_take zero [] v = refl
  dot_take zero (x ∷ r) v = refl
  dot_take (suc k) [] v = refl
  dot_take (suc k) (x ∷ r) [] = refl
  dot_take (suc k) (x ∷ r) (y ∷ v) = ap (λ (z : ℕ). 𝓕.mul x y ⊕ z) (dot_take k r v)

  -- a vector of k entries meets the first k alone
  pub dot_front : (k : ℕ) (r v : List ℕ) → length v ≡ k → dot 𝓕 (take k r) v ≡ dot 𝓕 r v
  dot_front k r v l = dot_take k r v ∙ ap (dot 𝓕 r) (take_all k v (omega arith))

  dot_comm : (u v : List ℕ) → dot 𝓕 u v ≡ dot 𝓕 v u
  unfolding dot
  dot_comm [] [] = refl
  dot_comm [] (y ∷ v) = refl
  dot_comm (x ∷ u) [] = refl
  dot_comm (x ∷ u) (y ∷ v) = ap₂ (λ (a b : ℕ). a ⊕ b) (𝓕.mul_comm x y) (dot_comm u v)

  pub dot_scale : (q : ℕ) (r v : List ℕ) → dot 𝓕 (scale_row 𝓕 q r) v ≡ 𝓕.mul q (dot 𝓕 r v)
  unfolding dot scale_row
  dot_scale q [] v = sym (mul_zero 𝓕 q)
  dot_scale q (x ∷ r) [] = sym (mul_zero 𝓕 q)
  dot_scale q (x ∷ r) (y ∷ v) =
      ap₂ (λ (a b : ℕ). a ⊕ b) (𝓕.mul_assoc q x y) (dot_scale q r v) ∙ sym (𝓕.mul_⊕ q (𝓕.mul x y) (dot 𝓕 r v))

  -- one product more: (d + q s) y + (e + q f) is (d y + e) + q (s y + f)
  pub linear_step : (d q s y e f : ℕ)
      → 𝓕.mul (d ⊕ 𝓕.mul q s) y ⊕ (e ⊕ 𝓕.mul q f) ≡ 𝓕.mul d y ⊕ e ⊕ 𝓕.mul q (𝓕.mul s y ⊕ f)
  linear_step d q s y e f =
      ap (λ (x : ℕ). x ⊕ (e ⊕ 𝓕.mul q f)) (⊕_mul 𝓕 d (𝓕.mul q s) y ∙ ap (λ (x : ℕ). 𝓕.mul d y ⊕ x) (𝓕.mul_assoc q s y))
      ∙ ⊕_middle (𝓕.mul d y) (𝓕.mul q (𝓕.mul s y)) e (𝓕.mul q f)
      ∙ ap (λ (x : ℕ). 𝓕.mul d y ⊕ e ⊕ x) (sym (𝓕.mul_⊕ q (𝓕.mul s y) f))

  pub dot_add : (q : ℕ) (src dst v : List ℕ) → length src ≡ length dst
      → dot 𝓕 (add_multiple 𝓕 q src dst) v ≡ dot 𝓕 dst v ⊕ 𝓕.mul q (dot 𝓕 src v)
  unfolding dot add_multiple
  dot_add q [] dst v l = sym (ap (λ (x : ℕ). dot 𝓕 dst v ⊕ x) (mul_zero 𝓕 q) ∙ ⊕_zero (dot 𝓕 dst v))
  dot_add q (s ∷ src) [] v l = absurd (omega arith)
  dot_add q (s ∷ src) (d ∷ dst) [] l = sym (mul_zero 𝓕 q)
  dot_add q (s ∷ src) (d ∷ dst) (y ∷ v) l =
      ap (λ (x : ℕ). 𝓕.mul (d ⊕ 𝓕.mul q s) y ⊕ x) (dot_add q src dst v (omega arith)) ∙ linear_step d q s y (dot 𝓕 dst v) (dot 𝓕 src v)

  -- the vectors added, in place of the rows
  pub dot_sum : (r u v : List ℕ) → length u ≡ length v → dot 𝓕 r (add_multiple 𝓕 1 v u) ≡ dot 𝓕 r u ⊕ dot 𝓕 r v
  dot_sum r u v l =
      dot_comm r (add_multiple 𝓕 1 v u) ∙ dot_add 1 v u r (sym l)
      ∙ ap₂ (λ (a b : ℕ). a ⊕ b) (dot_comm u r) (one_mul 𝓕 (dot 𝓕 v r) (dot_byte v r) ∙ dot_comm v r)

  -- ---- rows of zeros, and of the identity

  pub dot_empty : (r v : List ℕ) → Empty (length v) r → dot 𝓕 r v ≡ 0
  unfolding dot
  dot_empty [] v h = refl
  dot_empty (x ∷ r) [] h = refl
  dot_empty (x ∷ r) (y ∷ v) h =
      ap₂ (λ (a b : ℕ). a ⊕ b) (ap (λ (z : ℕ). 𝓕.mul z y) (h 0 (omega arith)) ∙ zero_mul 𝓕 y) (dot_empty r v (λ c g. h (suc c) (omega arith)))

  pub dot_zeros : (r : List ℕ) (n : ℕ) → dot 𝓕 r (replicate n 0) ≡ 0
  dot_zeros r n = dot_comm r (replicate n 0) ∙ dot_empty (replicate n 0) r (λ c h. zeros_entry n c)

  pub dot_unit : (r v : List ℕ) (i : ℕ) → Bytes v → i < length v → ((c : ℕ) → c < length v → i ≢ c → get_or r c 0 ≡ 0) → get_or r i 0 ≡ 1
      → dot 𝓕 r v ≡ get_or v i 0
  unfolding dot
  dot_unit [] v i b l z o = absurd (omega arith)
  dot_unit (x ∷ r) [] i b l z o = absurd (not-suc-le-zero l)
  dot_unit (x ∷ r) (y ∷ v) zero b l z o =
      ap₂ (λ (a c : ℕ). a ⊕ c) (ap (λ (w : ℕ). 𝓕.mul w y) o ∙ one_mul 𝓕 y (all_head b))
      (dot_empty r v (λ c g. z (suc c) (omega arith) (omega arith)))
      ∙ ⊕_zero y
  dot_unit (x ∷ r) (y ∷ v) (suc i) b l z o =
      ap₂ (λ (a c : ℕ). a ⊕ c) (ap (λ (w : ℕ). 𝓕.mul w y) (z 0 (omega arith) (omega arith)) ∙ zero_mul 𝓕 y)
      (dot_unit r v i (all_tail b) (omega arith) (λ c g e. z (suc c) (omega arith) (omega arith)) o)
      ∙ zero_⊕ (get_or v i 0)
