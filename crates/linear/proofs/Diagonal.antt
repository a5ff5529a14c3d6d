-- Rule 1 leaves zeros below the diagonal of each column that it came to. Rule 2, from the last row up, then meets a diagonal entry that is not 0,
-- and makes its column one of the identity; or it meets a 0, and that row is empty. So k rows that are left are the identity's.
-- Assumes nothing.
use mathlib.Core.Path.{◌≡◌, refl, sym, ap, ◌∙◌}
use mathlib.Core.Logic.{◌≢◌, ◌⊎◌, inl, inr}
use mathlib.Core.List.{List, []}
use Prim.Native.Nat.{ℕ, zero, suc, ◌≤◌, ◌<◌}
use native.Mathlib.Nat.{not-suc-le-zero}
use native.Mathlib.Decide.{ℕ_discrete, dec_lt}
use native.Mathlib.Omega.{arith}
use lib.ListN.{length, get_or}
use Rattle.galois.specs.FieldLaws.{FieldLaws}
use Rattle.galois.proofs.Field.{mul_zero}
use Rattle.linear.specs.All.{All, none, Bytes}
use Rattle.linear.specs.Rows.{entry, swap_rows, clear_by, clear_below, forward_at, forward, clear_above, backward, drop_empty, reduce}
use Rattle.linear.specs.Engine.{Empty, Identity}
use Rattle.linear.proofs.All.{Every, all_every, bytes_at}
use Rattle.linear.proofs.Sums.{add_keeps, clear_clears, scale_entry}
use Rattle.linear.proofs.Pivot.{nonzero_row}
use Rattle.linear.proofs.Drop.{drop_empty_le, drop_empty_full, drop_empty_loses}
use Rattle.linear.proofs.Steps.{swap_first, swap_row, below_kept, below_cleared, above_kept, above_cleared, above_scaled, length_forward, length_backward, forward_at_cases, backward_at_cases}
use Rattle.linear.proofs.Subspace.{bytes_subspace, swap_in, above_in, forward_in}

-- column c, for each c below n, is zero below the diagonal
abbrev pub Upper : ℕ → List (List ℕ) → Type 0
Upper n rows = (r c : ℕ) → c < n → c < r → entry rows r c ≡ 0

-- columns m to k - 1 are those of the identity
abbrev UnitFrom : ℕ → ℕ → List (List ℕ) → Type 0
UnitFrom m k rows = ((r c : ℕ) → m ≤ c → c < k → r ≢ c → entry rows r c ≡ 0) × ((c : ℕ) → m ≤ c → c < k → entry rows c c ≡ 1)

module _ (𝓕 : FieldLaws) where
  -- an entry of column i that row i clears
  cleared : (i : ℕ) (rows : List (List ℕ)) → Every Bytes [] rows → entry rows i i ≢ 0 → (r : ℕ)
      → get_or (clear_by 𝓕 i (get_or rows i []) (get_or rows r [])) i 0 ≡ 0
  unfolding entry
  cleared i rows b n r =
      clear_clears 𝓕 i (get_or rows i []) (get_or rows r []) (bytes_at (get_or rows r []) (b r) i) (bytes_at (get_or rows i []) (b i) i) n

  -- ---- rule 1

  below_upper : (i : ℕ) (rows : List (List ℕ)) → Every Bytes [] rows → entry rows i i ≢ 0 → Upper i rows → Upper (suc i) (clear_below 𝓕 i rows)
  unfolding entry clear_by
  below_upper i rows b n u r c h l = go (dec_lt i r) (ℕ_discrete c i)
    where
      go : Dec (i < r) → Dec (c ≡ i) → get_or (get_or (clear_below 𝓕 i rows) r []) c 0 ≡ 0
      go (yes g) (yes e) = rw (below_cleared 𝓕 i rows r g, e) (cleared i rows b n r)
      go (yes g) (no e) =
          rw (below_cleared 𝓕 i rows r g)
          (add_keeps 𝓕 _ (get_or rows i []) (get_or rows r []) c (u i c (omega arith) (omega arith)) ∙ u r c (omega arith) l)
      go (no g) d = rw (below_kept 𝓕 i rows r (omega arith)) (u r c (omega arith) l)

  forward_at_upper : (i : ℕ) (rows : List (List ℕ)) → Every Bytes [] rows → Upper i rows → Upper (suc i) (forward_at 𝓕 i rows)
  unfolding entry
  forward_at_upper i rows b u = forward_at_cases 𝓕 (Upper (suc i)) i rows none some
    where
      none : ((r : ℕ) → i ≤ r → entry rows r i ≡ 0) → Upper (suc i) rows
      none z r c h l = go (ℕ_discrete c i)
        where
          go : Dec (c ≡ i) → entry rows r c ≡ 0
          go (yes e) = rw e (z r (omega arith))
          go (no e) = u r c (omega arith) l

      some : (j : ℕ) → i ≤ j → j < length rows → entry rows j i ≢ 0 → Upper (suc i) (clear_below 𝓕 i (swap_rows rows i j))
      some j ij hj n =
          let hi : i < length rows = omega arith in
          below_upper i (swap_rows rows i j) (swap_in 𝓕 (bytes_subspace 𝓕) rows i j hi hj b)
          (λ e. n (sym (ap (λ (row : List ℕ). get_or row i 0) (swap_first rows i j hi hj)) ∙ e))
          (λ r c h l. swap_row rows i j (λ row. get_or row c 0 ≡ 0) hi hj (u i c h h) (u j c h (omega arith)) r (u r c h l))

  pub forward_upper : (n : ℕ) (rows : List (List ℕ)) → Every Bytes [] rows → Upper n (forward 𝓕 n rows)
  unfolding forward
  forward_upper zero rows b = λ r c h l. absurd (not-suc-le-zero h)
  forward_upper (suc n) rows b =
      forward_at_upper n (forward 𝓕 n rows) (forward_in 𝓕 (bytes_subspace 𝓕) n rows b) (forward_upper n rows b)

  -- ---- rule 2

  -- one turn: row i is zero but for (i, i)
  module _ (i k : ℕ) (rows : List (List ℕ)) (b : Every Bytes [] rows) (n : entry rows i i ≢ 0) (ik : i < k)
      (u : Upper k rows) (d : UnitFrom (suc i) k rows) where
    l : i < length rows
    l = nonzero_row rows i i n

    alone : (c : ℕ) → c < k → c ≢ i → entry rows i c ≡ 0
    alone c h e = go (dec_lt c i)
      where
        go : Dec (c < i) → entry rows i c ≡ 0
        go (yes g) = u i c h g
        go (no g) = d.0 i c (omega arith) h (λ z. e (sym z))

    -- away from column i nothing changes but row i's zeros stay
    above_same : (r c : ℕ) → c < k → c ≢ i → entry (clear_above 𝓕 i rows) r c ≡ entry rows r c
    unfolding entry clear_by
    above_same r c h e = go (dec_lt i r) (ℕ_discrete r i)
      where
        go : Dec (i < r) → Dec (r ≡ i) → get_or (get_or (clear_above 𝓕 i rows) r []) c 0 ≡ get_or (get_or rows r []) c 0
        go (yes g) q = rw (above_kept 𝓕 i rows r l g)
        go (no g) (yes z) =
            rw (z, above_scaled 𝓕 i rows l) (scale_entry 𝓕 _ (get_or rows i []) c ∙ ap (𝓕.mul _) (alone c h e) ∙ mul_zero 𝓕 _ ∙ sym (alone c h e))
        go (no g) (no z) = rw (above_cleared 𝓕 i rows r l (omega arith)) (add_keeps 𝓕 _ (get_or rows i []) (get_or rows r []) c (alone c h e))

    above_column : (r : ℕ) → r ≢ i → entry (clear_above 𝓕 i rows) r i ≡ 0
    unfolding entry
    above_column r e = go (dec_lt i r)
      where
        go : Dec (i < r) → get_or (get_or (clear_above 𝓕 i rows) r []) i 0 ≡ 0
        go (yes g) = rw (above_kept 𝓕 i rows r l g) (u r i ik g)
        go (no g) = rw (above_cleared 𝓕 i rows r l (omega arith)) (cleared i rows b n r)

    above_one : entry (clear_above 𝓕 i rows) i i ≡ 1
    unfolding entry
    above_one =
        rw (above_scaled 𝓕 i rows l)
        (scale_entry 𝓕 _ (get_or rows i []) i ∙ 𝓕.mul_comm (𝓕.inv (entry rows i i)) (entry rows i i)
        ∙ 𝓕.mul_inv (entry rows i i) (omega arith) (bytes_at (get_or rows i []) (b i) i))

    above_upper : Upper k (clear_above 𝓕 i rows)
    above_upper r c h g = go (ℕ_discrete c i)
      where
        go : Dec (c ≡ i) → entry (clear_above 𝓕 i rows) r c ≡ 0
        go (yes e) = rw e (above_column r (omega arith))
        go (no e) = above_same r c h e ∙ u r c h g

    above_unit : UnitFrom i k (clear_above 𝓕 i rows)
    above_unit = (off, on)
      where
        off : (r c : ℕ) → i ≤ c → c < k → r ≢ c → entry (clear_above 𝓕 i rows) r c ≡ 0
        off r c g h e = go (ℕ_discrete c i)
          where
            go : Dec (c ≡ i) → entry (clear_above 𝓕 i rows) r c ≡ 0
            go (yes z) = rw z (above_column r (omega arith))
            go (no z) = above_same r c h z ∙ d.0 r c (omega arith) h e

        on : (c : ℕ) → i ≤ c → c < k → entry (clear_above 𝓕 i rows) c c ≡ 1
        on c g h = go (ℕ_discrete c i)
          where
            go : Dec (c ≡ i) → entry (clear_above 𝓕 i rows) c c ≡ 1
            go (yes z) = rw z above_one
            go (no z) = above_same c c h z ∙ d.1 c (omega arith) h

  -- ---- rule 2 for all i: rows m and on stay, and what comes out is the identity, or some row is empty

  backward_keeps : (m : ℕ) (rows : List (List ℕ)) (r : ℕ) → m ≤ r → get_or (backward 𝓕 m rows) r [] ≡ get_or rows r []
  unfolding backward
  backward_keeps zero rows r h = refl
  backward_keeps (suc i) rows r h =
      backward_at_cases 𝓕 (λ x. get_or (backward 𝓕 i x) r [] ≡ get_or rows r []) i rows
      (λ e. backward_keeps i rows r (omega arith))
      (λ n. backward_keeps i (clear_above 𝓕 i rows) r (omega arith) ∙ above_kept 𝓕 i rows r (nonzero_row rows i i n) h)

  abbrev Outcome : ℕ → List (List ℕ) → Type 0
  Outcome k rows = UnitFrom 0 k rows ⊎ ((i : ℕ) × (i < k) × Empty k (get_or rows i []))

  backward_unit : (m k : ℕ) (rows : List (List ℕ)) → m ≤ k → Every Bytes [] rows → Upper k rows → UnitFrom m k rows → Outcome k (backward 𝓕 m rows)
  unfolding backward entry
  backward_unit zero k rows h b u d = inl d
  backward_unit (suc i) k rows h b u d =
      backward_at_cases 𝓕 (λ x. Outcome k (backward 𝓕 i x)) i rows
      (λ e. inr (i, h, λ c g. ap (λ (row : List ℕ). get_or row c 0) (backward_keeps i rows i (omega arith)) ∙ empty e c g))
      (λ n. backward_unit i k (clear_above 𝓕 i rows) (omega arith) (above_in 𝓕 (bytes_subspace 𝓕) i rows (nonzero_row rows i i n) b)
      (above_upper i k rows b n h u d) (above_unit i k rows b n h u d))
    where
      empty : entry rows i i ≡ 0 → Empty k (get_or rows i [])
      empty e c g = go (ℕ_discrete c i) (dec_lt c i)
        where
          go : Dec (c ≡ i) → Dec (c < i) → entry rows i c ≡ 0
          go (yes z) q = rw z e
          go (no z) (yes q) = u i c g q
          go (no z) (no q) = d.0 i c (omega arith) g (omega arith)

  drop_identity : (k : ℕ) (rows : List (List ℕ)) → length rows ≡ k → length (drop_empty k rows) ≡ k → Outcome k rows → Identity k (drop_empty k rows)
  drop_identity k rows l e (inl d) =
      rw (drop_empty_full k rows (e ∙ sym l)) (record { off = λ r c h n. d.0 r c (omega arith) h n; on = λ c h. d.1 c (omega arith) h })
  drop_identity k rows l e (inr z) = absurd (omega (arith, drop_empty_loses k rows z.0 (omega arith) z.2))

  -- the rules, on at most k rows: if k rows are left, they are the identity's
  pub reduce_identity : (k : ℕ) (rows : List (List ℕ)) → All Bytes rows → length rows ≤ k → length (reduce 𝓕 k rows) ≡ k
      → Identity k (reduce 𝓕 k rows)
  unfolding reduce
  reduce_identity k rows b h e =
      let n : ℕ = length rows in
      let x : List (List ℕ) = forward 𝓕 n rows in
      let y : List (List ℕ) = backward 𝓕 n x in
      let ly : length y ≡ n = length_backward 𝓕 n x ∙ length_forward 𝓕 n rows in
      let nk : n ≡ k = omega (arith, drop_empty_le k y) in
      let c : Every Bytes [] rows = all_every [] rows none b in
      drop_identity k y (ly ∙ nk) e
      (backward_unit n k x h (forward_in 𝓕 (bytes_subspace 𝓕) n rows c) (λ r c' g l. forward_upper n rows c r c' (omega arith) l)
      ((λ r c' g l z. absurd (omega arith)), (λ c' g l. absurd (omega arith))))
