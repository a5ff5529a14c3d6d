-- Two blocks that agree with the same pieces differ, column by column, by vectors that the pieces kill; and a vector that they kill, added to a
-- column, gives another block that agrees. So a block is the only one exactly if the pieces kill no vector but zero.
-- Assumes nothing.
use mathlib.Core.Path.{◌≡◌, refl, sym, ap, ap₂, ◌∙◌}
use mathlib.Core.Logic.{◌≢◌}
use mathlib.Core.List.{List, [], ◌∷◌}
use Prim.Native.Nat.{ℕ, zero, suc, ◌+◌, ◌<◌}
use native.Mathlib.Decide.{ℕ_discrete}
use native.Mathlib.Omega.{arith}
use lib.ListN.{length, get_or, take, length-map, get_or-map}
use lib.Seq.{ext_get_or}
use Rattle.galois.specs.Gf.{◌⊕◌}
use Rattle.galois.specs.FieldLaws.{FieldLaws}
use Rattle.galois.proofs.Sum.{⊕_self, ⊕_zero, ⊕_comm, ⊕_twice, ⊕_equal}
use Rattle.galois.proofs.Field.{one_mul}
use Rattle.linear.specs.All.{All, none, more, Bytes}
use Rattle.linear.specs.Rows.{entry, add_multiple}
use Rattle.linear.specs.Pieces.{column, dot, Truthful}
use Rattle.linear.specs.Blocks.{Block, Agrees, Unique, Kills, Trivial}
use Rattle.linear.proofs.All.{all_head, all_tail, all_imp, all_both, all_at, bytes_at}
use Rattle.linear.proofs.Sums.{length_add, add_entry, add_keeps}
use Rattle.linear.proofs.Subspace.{bytes_subspace}
use Rattle.linear.proofs.Dot.{dot_front, dot_sum}

-- ---- columns

pub length_column : (j : ℕ) (block : List (List ℕ)) → length (column j block) ≡ length block
unfolding column
length_column j block = length-map block (λ row. get_or row j 0)

pub column_bytes : (j : ℕ) (block : List (List ℕ)) → All Bytes block → Bytes (column j block)
unfolding column
column_bytes j [] h = none
column_bytes j (row ∷ block) h = more (bytes_at row (all_head h) j) (column_bytes j block (all_tail h))

pub column_entry : (j : ℕ) (block : List (List ℕ)) (i : ℕ) → get_or (column j block) i 0 ≡ entry block i j
unfolding column entry
column_entry j block i = get_or-map (λ row. get_or row j 0) block i []

-- two blocks with equal bytes
block_ext : (k L : ℕ) (a b : List (List ℕ)) → Block k L a → Block k L b → ((i j : ℕ) → i < k → j < L → entry a i j ≡ entry b i j) → a ≡ b
unfolding entry
block_ext k L a b ha hb h =
    ext_get_or [] a b (ha.count ∙ sym hb.count) (λ i l.
    let la : length (get_or a i []) ≡ L = all_at [] a i ha.sizes l in
    let lb : length (get_or b i []) ≡ L = all_at [] b i hb.sizes (omega arith) in
    ext_get_or 0 (get_or a i []) (get_or b i []) (la ∙ sym lb) (λ j g. h i j (omega arith) (omega arith)))

module _ (𝓕 : FieldLaws) where
  -- ---- a vector added to a block's first column

  shifted : List (List ℕ) → List ℕ → List (List ℕ)
  shifted [] v = []
  shifted (row ∷ block) [] = row ∷ block
  shifted (row ∷ block) (x ∷ v) = add_multiple 𝓕 x (1 ∷ []) row ∷ shifted block v

  shifted_first : (block : List (List ℕ)) (v : List ℕ) → All (λ row. 0 < length row) block
      → column 0 (shifted block v) ≡ add_multiple 𝓕 1 v (column 0 block)
  unfolding shifted add_multiple column
  shifted_first [] [] h = refl
  shifted_first [] (x ∷ v) h = refl
  shifted_first (row ∷ block) [] h = refl
  shifted_first ([] ∷ block) (x ∷ v) h = absurd (omega (arith, all_head h))
  shifted_first ((y ∷ row) ∷ block) (x ∷ v) h =
      ap₂ (λ (z : ℕ) (l : List ℕ). (y ⊕ z) ∷ l) (𝓕.mul_comm x 1) (shifted_first block v (all_tail h))

  shifted_rest : (j : ℕ) (block : List (List ℕ)) (v : List ℕ) → column (suc j) (shifted block v) ≡ column (suc j) block
  unfolding shifted column
  shifted_rest j [] v = refl
  shifted_rest j (row ∷ block) [] = refl
  shifted_rest j (row ∷ block) (x ∷ v) =
      ap₂ (λ (z : ℕ) (l : List ℕ). z ∷ l) (add_keeps 𝓕 x (1 ∷ []) row (suc j) refl) (shifted_rest j block v)

  length_shifted : (block : List (List ℕ)) (v : List ℕ) → length (shifted block v) ≡ length block
  unfolding shifted
  length_shifted [] v = refl
  length_shifted (row ∷ block) [] = refl
  length_shifted (row ∷ block) (x ∷ v) = ap suc (length_shifted block v)

  -- what each row keeps
  shifted_all : {P : List ℕ → Type 0} → ((x : ℕ) (row : List ℕ) → P row → P (add_multiple 𝓕 x (1 ∷ []) row))
      → (block : List (List ℕ)) (v : List ℕ) → All P block → All P (shifted block v)
  unfolding shifted
  shifted_all f [] v h = none
  shifted_all f (row ∷ block) [] h = h
  shifted_all f (row ∷ block) (x ∷ v) h = more (f x row (all_head h)) (shifted_all f block v (all_tail h))

  module _ (k L : ℕ) (pieces block : List (List ℕ)) (b : Block k L block) (a : Agrees 𝓕 k L pieces block) where
    sized : (j : ℕ) → length (column j block) ≡ k
    sized j = length_column j block ∙ b.count

    -- ---- the kernel is trivial exactly if no other block agrees

    pub trivial_unique : Trivial 𝓕 k pieces → Unique 𝓕 k L pieces block
    unfolding Trivial Unique Agrees Truthful Kills
    trivial_unique t other o to = block_ext k L other block o b same
      where
        same : (i j : ℕ) → i < k → j < L → entry other i j ≡ entry block i j
        same i j hi hj =
            let u : List ℕ = column j other in
            let v : List ℕ = column j block in
            let lu : length u ≡ k = length_column j other ∙ o.count in
            let lv : length v ≡ k = sized j in
            let bv : Bytes v = column_bytes j block b.bytes in
            let z : get_or (add_multiple 𝓕 1 v u) i 0 ≡ 0 =
            t (add_multiple 𝓕 1 v u) (length_add 𝓕 1 v u ∙ lu) ((bytes_subspace 𝓕).add 1 v u bv (column_bytes j other o.bytes))
            (all_imp (λ p h. dot_sum 𝓕 p u v (lu ∙ sym lv)
            ∙ ap₂ (λ (x y : ℕ). x ⊕ y) (sym (h.0 j hj ∙ dot_front 𝓕 k p u lu)) (sym (h.1 j hj ∙ dot_front 𝓕 k p v lv)) ∙ ⊕_self (get_or p (k + j) 0))
            (all_both to a)) i in
            sym (column_entry j other i)
            ∙ ⊕_equal (get_or u i 0) (get_or v i 0)
            (ap (λ (x : ℕ). get_or u i 0 ⊕ x) (sym (one_mul 𝓕 (get_or v i 0) (bytes_at v bv i))) ∙ sym (add_entry 𝓕 1 v u i (lv ∙ sym lu)) ∙ z)
            ∙ column_entry j block i

    -- a vector that the pieces kill and that is not zero leaves another block that agrees
    pub other_block : 0 < L → (v : List ℕ) → length v ≡ k → Bytes v → All (Kills 𝓕 v) pieces → (i : ℕ) → get_or v i 0 ≢ 0
        → (other : List (List ℕ)) × Block k L other × Agrees 𝓕 k L pieces other × (other ≢ block)
    unfolding Agrees Truthful Kills
    other_block pos v lv bv kv i n = (
      shifted block v,
      record {
        count = length_shifted block v ∙ b.count;
        sizes = shifted_all (λ x row e. length_add 𝓕 x (1 ∷ []) row ∙ e) block v b.sizes;
        bytes = shifted_all (λ x row h. (bytes_subspace 𝓕).add x (1 ∷ []) row (more (omega arith) none) h) block v b.bytes;
      },
      all_imp (λ p g. truthful p g.0 g.1) (all_both a kv),
      λ e. n (nothing (get_or c i 0) (get_or v i 0)
          (ap (λ (x : ℕ). get_or c i 0 ⊕ x) (sym (one_mul 𝓕 (get_or v i 0) (bytes_at v bv i))) ∙ sym (add_entry 𝓕 1 v c i (lv ∙ sym (sized 0)))
          ∙ ap (λ (x : List ℕ). get_or x i 0) (sym first ∙ ap (column 0) e))),
    )
      where
        c : List ℕ
        c = column 0 block

        first : column 0 (shifted block v) ≡ add_multiple 𝓕 1 v c
        first = shifted_first block v (all_imp (λ row e. omega arith) b.sizes)

        nothing : (y x : ℕ) → y ⊕ x ≡ y → x ≡ 0
        nothing y x e = sym (⊕_twice x y) ∙ ap (λ (z : ℕ). z ⊕ y) (⊕_comm x y ∙ e) ∙ ⊕_self y

        truthful : (p : List ℕ) → Truthful 𝓕 k L block p → Kills 𝓕 v p → Truthful 𝓕 k L (shifted block v) p
        truthful p t d zero g =
            t 0 g ∙ dot_front 𝓕 k p c (sized 0)
            ∙ sym (dot_front 𝓕 k p (column 0 (shifted block v)) (length_column 0 (shifted block v) ∙ length_shifted block v ∙ b.count)
            ∙ ap (dot 𝓕 p) first ∙ dot_sum 𝓕 p c v (sized 0 ∙ sym lv) ∙ ap (λ (x : ℕ). dot 𝓕 p c ⊕ x) d ∙ ⊕_zero (dot 𝓕 p c))
        truthful p t d (suc j) g = t (suc j) g ∙ ap (dot 𝓕 (take k p)) (sym (shifted_rest j block v))

    pub unique_trivial : 0 < L → Unique 𝓕 k L pieces block → Trivial 𝓕 k pieces
    unfolding Trivial Unique
    unique_trivial pos u v lv bv kv i = go (ℕ_discrete (get_or v i 0) 0)
      where
        go : Dec (get_or v i 0 ≡ 0) → get_or v i 0 ≡ 0
        go (yes e) = e
        go (no n) =
            let (other, o, ao, ne) = other_block pos v lv bv kv i n in
            absurd (ne (u other o ao))
