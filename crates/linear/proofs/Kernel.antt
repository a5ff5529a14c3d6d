-- Fewer rows than unknowns leave one unknown free. By recursion on the number of unknowns: a row whose first entry is not 0 gives the first
-- unknown from the others, and is used up; where there is no such row, the first unknown is free.
-- Assumes nothing.
use mathlib.Core.Path.{◌≡◌, refl, sym, ap, ap₂, ◌∙◌}
use mathlib.Core.Logic.{◌≢◌, ◌⊎◌, inl, inr}
use mathlib.Core.List.{List, [], ◌∷◌, ◌++◌, map}
use Prim.Native.Nat.{ℕ, zero, suc, ◌+◌, ◌<◌}
use native.Mathlib.Nat.{not-suc-le-zero}
use native.Mathlib.Omega.{arith}
use lib.ListN.{length, get_or, replicate, length-replicate, length-append, length-map}
use Rattle.galois.specs.Gf.{◌⊕◌}
use Rattle.galois.specs.FieldLaws.{FieldLaws}
use Rattle.galois.proofs.Sum.{⊕_self, ⊕_zero, ⊕_equal}
use Rattle.galois.proofs.Field.{mul_zero, one_mul, zero_or_unit}
use Rattle.linear.specs.All.{All, none, more, Bytes}
use Rattle.linear.specs.Pieces.{dot}
use Rattle.linear.specs.Blocks.{Kills, Kernel}
use Rattle.linear.proofs.All.{all_head, all_tail, all_imp, all_true, all_append_left, all_append_right, all_of_map, zeros_bytes}
use Rattle.linear.proofs.Dot.{dot_byte, dot_zeros, linear_step}

module _ (𝓕 : FieldLaws) where
  -- s plus q times t, of any lengths
  plus : ℕ → List ℕ → List ℕ → List ℕ
  plus q [] s = s
  plus q (x ∷ t) [] = 𝓕.mul q x ∷ plus q t []
  plus q (x ∷ t) (y ∷ s) = (y ⊕ 𝓕.mul q x) ∷ plus q t s

  dot_plus : (q : ℕ) (t s v : List ℕ) → dot 𝓕 (plus q t s) v ≡ dot 𝓕 s v ⊕ 𝓕.mul q (dot 𝓕 t v)
  unfolding dot plus
  dot_plus q [] s v = sym (ap (λ (x : ℕ). dot 𝓕 s v ⊕ x) (mul_zero 𝓕 q) ∙ ⊕_zero (dot 𝓕 s v))
  dot_plus q (x ∷ t) [] [] = sym (mul_zero 𝓕 q)
  dot_plus q (x ∷ t) [] (y ∷ v) =
      ap₂ (λ (a b : ℕ). a ⊕ b) (𝓕.mul_assoc q x y) (dot_plus q t [] v) ∙ sym (𝓕.mul_⊕ q (𝓕.mul x y) (dot 𝓕 t v))
  dot_plus q (x ∷ t) (z ∷ s) [] = sym (mul_zero 𝓕 q)
  dot_plus q (x ∷ t) (z ∷ s) (y ∷ v) =
      ap (λ (w : ℕ). 𝓕.mul (z ⊕ 𝓕.mul q x) y ⊕ w) (dot_plus q t s v) ∙ linear_step 𝓕 z q x y (dot 𝓕 s v) (dot 𝓕 t v)

  -- the first unknown put out of a row by the pivot row's t, u being the inverse of its first entry
  without : ℕ → List ℕ → List ℕ → List ℕ
  without u t [] = []
  without u t (b ∷ s) = plus (𝓕.mul b u) t s

  -- and put in again
  within : (u : ℕ) (t v r : List ℕ) → Kills 𝓕 v (without u t r) → Kills 𝓕 (𝓕.mul u (dot 𝓕 t v) ∷ v) r
  unfolding dot without Kills
  within u t v [] h = refl
  within u t v (b ∷ s) h =
      let x : ℕ = 𝓕.mul (𝓕.mul b u) (dot 𝓕 t v) in
      ap₂ (λ (y z : ℕ). y ⊕ z) (sym (𝓕.mul_assoc b u (dot 𝓕 t v))) (⊕_equal (dot 𝓕 s v) x (sym (dot_plus (𝓕.mul b u) t s v) ∙ h)) ∙ ⊕_self x

  -- the rows `zs` have lost a first entry that acts as zero; those of `rest` have theirs
  record Found (k : ℕ) (zs rest : List (List ℕ)) : Type 0 where
    first : ℕ
    others : List ℕ
    size : length others ≡ k
    byte : first < 256
    bytes : Bytes others
    place : ℕ
    nonzero : get_or (first ∷ others) place 0 ≢ 0
    lost : All (Kills 𝓕 others) zs
    whole : All (Kills 𝓕 (first ∷ others)) rest

  -- the same vector, for other rows
  found : {k : ℕ} {zs rest zs' rest' : List (List ℕ)} (f : Found k zs rest) → All (Kills 𝓕 f.others) zs'
      → All (Kills 𝓕 (f.first ∷ f.others)) rest' → Found k zs' rest'
  found f l w = record {
    first = f.first;
    others = f.others;
    size = f.size;
    byte = f.byte;
    bytes = f.bytes;
    place = f.place;
    nonzero = f.nonzero;
    lost = l;
    whole = w;
  }

  search_pivot : (k : ℕ) → ((rows : List (List ℕ)) → length rows < k → Kernel 𝓕 k rows)
      → (rest zs : List (List ℕ)) → length zs + length rest < suc k → Found k zs rest
  unfolding dot Kills
  search_pivot k ih [] zs h =
      record {
        first = 1;
        others = replicate k 0;
        size = length-replicate k 0;
        byte = omega arith;
        bytes = zeros_bytes k;
        place = 0;
        nonzero = λ e. omega arith;
        lost = all_true (λ z. dot_zeros 𝓕 z k) zs;
        whole = none;
      }
  search_pivot k ih ([] ∷ rest) zs h =
      let f : Found k zs rest = search_pivot k ih rest zs (omega arith) in
      found f f.lost (more refl f.whole)
  search_pivot k ih ((a ∷ t) ∷ rest) zs h = go (zero_or_unit 𝓕 a) (search_pivot k ih rest (t ∷ zs) (omega arith))
    where
      go : ((b : ℕ) → b < 256 → 𝓕.mul a b ≡ 0) ⊎ ((u : ℕ) × (𝓕.mul a u ≡ 1)) → Found k (t ∷ zs) rest → Found k zs ((a ∷ t) ∷ rest)
      go (inl z) f =
          found f (all_tail f.lost) (more (ap₂ (λ (x y : ℕ). x ⊕ y) (z f.first f.byte) (all_head f.lost)) f.whole)
      go (inr (u, e)) f =
          let left : List (List ℕ) = map (without u t) rest in
          let m : Kernel 𝓕 k (zs ++ left) = ih (zs ++ left) (simp (length-append, length-map) (omega arith)) in
          let d : ℕ = dot 𝓕 t m.vector in
          record {
            first = 𝓕.mul u d;
            others = m.vector;
            size = m.size;
            byte = 𝓕.mul_lt u d;
            bytes = m.bytes;
            place = suc m.place;
            nonzero = m.nonzero;
            lost = all_append_left zs left m.killed;
            whole = more
                (ap (λ (x : ℕ). x ⊕ d) (sym (𝓕.mul_assoc a u d) ∙ ap (λ (x : ℕ). 𝓕.mul x d) e ∙ one_mul 𝓕 d (dot_byte 𝓕 t m.vector)) ∙ ⊕_self d)
                (all_imp (within u t m.vector) (all_of_map (without u t) rest (all_append_right zs left m.killed)));
          }

  pub kernel : (k : ℕ) (rows : List (List ℕ)) → length rows < k → Kernel 𝓕 k rows
  kernel zero rows h = absurd (not-suc-le-zero h)
  kernel (suc k) rows h =
      let f : Found k [] rows = search_pivot k (kernel k) rows [] (omega arith) in
      record {
        vector = f.first ∷ f.others;
        size = ap suc f.size;
        bytes = more f.byte f.bytes;
        place = f.place;
        nonzero = f.nonzero;
        killed = f.whole;
      }
