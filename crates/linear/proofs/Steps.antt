-- Each step of the row rules keeps a row, clears it by the pivot row, scales it, or swaps two: which one is told by the row's index. A row behind
-- the last reads as [], which all of them keep.
-- Assumes nothing.
use mathlib.Core.Path.{◌≡◌, refl, sym, ap, ◌∙◌, subst}
use mathlib.Core.Logic.{◌≢◌}
use mathlib.Core.List.{List, [], ◌∷◌, ◌++◌, map}
use mathlib.Core.Option.{Option, none, some}
use Prim.Native.Nat.{ℕ, zero, suc, ◌≤◌, ◌<◌}
use native.Mathlib.Nat.{le_of_suc-le-suc, not-suc-le-zero, suc-ne-zero}
use native.Mathlib.Decide.{ℕ_discrete}
use native.Mathlib.Omega.{arith}
use lib.ListN.{length, get_or, take, drop, set, length-set, length-drop, length-append, length-map, length-take}
use lib.Seq.{get_or-set_same, get_or-set_other}
use Rattle.galois.specs.FieldLaws.{FieldLaws}
use Rattle.linear.specs.Choice.{if_zero}
use Rattle.linear.specs.Rows.{entry, pivot_from, swap_rows, scale_row, clear_by, clear_below, clear_pivoted, forward_at, forward, clear_above, backward_at, backward, reduce}
use Rattle.linear.proofs.Sums.{clear_nil}
use Rattle.linear.proofs.Pivot.{Pivot, pivot_spec, nonzero_row}
use Rattle.linear.proofs.Drop.{drop_empty_le}

-- ---- a part of the rows is mapped

module _ (f : List ℕ → List ℕ) (nil : f [] ≡ []) where
  pub get_or_map_nil : (rows : List (List ℕ)) (r : ℕ) → get_or (map f rows) r [] ≡ f (get_or rows r [])
  get_or_map_nil [] r = sym nil
  get_or_map_nil (x ∷ xs) zero = refl
  get_or_map_nil (x ∷ xs) (suc r) = get_or_map_nil xs r

  mapped_after : (n : ℕ) (rows : List (List ℕ)) (r : ℕ) → n ≤ r → get_or (take n rows ++ map f (drop n rows)) r [] ≡ f (get_or rows r [])
  mapped_after zero rows r h = get_or_map_nil rows r
  mapped_after (suc n) [] r h = sym nil
  mapped_after (suc n) (x ∷ xs) zero h = absurd (not-suc-le-zero h)
  mapped_after (suc n) (x ∷ xs) (suc r) h = mapped_after n xs r (le_of_suc-le-suc h)

  kept_before : (n : ℕ) (rows : List (List ℕ)) (r : ℕ) → r < n → get_or (take n rows ++ map f (drop n rows)) r [] ≡ get_or rows r []
  kept_before zero rows r h = absurd (not-suc-le-zero h)
  kept_before (suc n) [] r h = refl
  kept_before (suc n) (x ∷ xs) zero h = refl
  kept_before (suc n) (x ∷ xs) (suc r) h = kept_before n xs r (le_of_suc-le-suc h)

  mapped_before : (i : ℕ) (x : List ℕ) (rows : List (List ℕ)) (r : ℕ) → i < length rows → r < i
      → get_or (map f (take i rows) ++ (x ∷ drop (suc i) rows)) r [] ≡ f (get_or rows r [])
  mapped_before zero x rows r l h = absurd (not-suc-le-zero h)
  mapped_before (suc i) x [] r l h = absurd (not-suc-le-zero l)
  mapped_before (suc i) x (y ∷ ys) zero l h = refl
  mapped_before (suc i) x (y ∷ ys) (suc r) l h = mapped_before i x ys r (le_of_suc-le-suc l) (le_of_suc-le-suc h)

  placed_at : (i : ℕ) (x : List ℕ) (rows : List (List ℕ)) → i < length rows
      → get_or (map f (take i rows) ++ (x ∷ drop (suc i) rows)) i [] ≡ x
  placed_at zero x rows l = refl
  placed_at (suc i) x [] l = absurd (not-suc-le-zero l)
  placed_at (suc i) x (y ∷ ys) l = placed_at i x ys (le_of_suc-le-suc l)

  kept_after : (i : ℕ) (x : List ℕ) (rows : List (List ℕ)) (r : ℕ) → i < length rows → i < r
      → get_or (map f (take i rows) ++ (x ∷ drop (suc i) rows)) r [] ≡ get_or rows r []
  kept_after i x [] r l h = absurd (not-suc-le-zero l)
  kept_after zero x (y ∷ ys) zero l h = absurd (not-suc-le-zero h)
  kept_after zero x (y ∷ ys) (suc r) l h = refl
  kept_after (suc i) x (y ∷ ys) zero l h = absurd (not-suc-le-zero h)
  kept_after (suc i) x (y ∷ ys) (suc r) l h = kept_after i x ys r (le_of_suc-le-suc l) (le_of_suc-le-suc h)

-- ---- a swap

module _ (rows : List (List ℕ)) (i j : ℕ) where
  pub swap_second : j < length rows → get_or (swap_rows rows i j) j [] ≡ get_or rows i []
  unfolding swap_rows
  swap_second h =
      get_or-set_same (set rows i (get_or rows j [])) j (get_or rows i []) []
      (subst (λ (n : ℕ). j < n) (sym (length-set rows i (get_or rows j []))) h)

  pub swap_first : i < length rows → j < length rows → get_or (swap_rows rows i j) i [] ≡ get_or rows j []
  unfolding swap_rows
  swap_first hi hj = go (ℕ_discrete i j)
    where
      go : Dec (i ≡ j) → get_or (swap_rows rows i j) i [] ≡ get_or rows j []
      go (yes e) = ap (λ (x : ℕ). get_or (swap_rows rows i j) x []) e ∙ swap_second hj ∙ ap (λ (x : ℕ). get_or rows x []) e
      go (no n) = get_or-set_other (set rows i (get_or rows j [])) j i (get_or rows i []) [] n ∙ get_or-set_same rows i (get_or rows j []) [] hi

  pub swap_other : (r : ℕ) → r ≢ i → r ≢ j → get_or (swap_rows rows i j) r [] ≡ get_or rows r []
  unfolding swap_rows
  swap_other r ni nj = get_or-set_other (set rows i (get_or rows j [])) j r (get_or rows i []) [] nj ∙ get_or-set_other rows i r (get_or rows j []) [] ni

  pub length_swap : length (swap_rows rows i j) ≡ length rows
  unfolding swap_rows
  length_swap = length-set (set rows i (get_or rows j [])) j (get_or rows i []) ∙ length-set rows i (get_or rows j [])

  pub swap_row : (P : List ℕ → Type 0) → i < length rows → j < length rows
      → P (get_or rows i []) → P (get_or rows j []) → (r : ℕ) → P (get_or rows r []) → P (get_or (swap_rows rows i j) r [])
  swap_row P hi hj pi pj r h = go (ℕ_discrete r i) (ℕ_discrete r j)
    where
      go : Dec (r ≡ i) → Dec (r ≡ j) → P (get_or (swap_rows rows i j) r [])
      go (yes e) d = rw (e, swap_first hi hj) pj
      go (no n) (yes e) = rw (e, swap_second hj) pi
      go (no n) (no m) = rw (swap_other r n m) h

-- ---- rule 1 and rule 2 at i

module _ (𝓕 : FieldLaws) where
  module _ (i : ℕ) (rows : List (List ℕ)) (r : ℕ) where
    pub below_kept : r ≤ i → get_or (clear_below 𝓕 i rows) r [] ≡ get_or rows r []
    unfolding clear_below
    below_kept h = kept_before (clear_by 𝓕 i (get_or rows i [])) (clear_nil 𝓕 i (get_or rows i [])) (suc i) rows r (omega arith)

    pub below_cleared : i < r → get_or (clear_below 𝓕 i rows) r [] ≡ clear_by 𝓕 i (get_or rows i []) (get_or rows r [])
    unfolding clear_below
    below_cleared h = mapped_after (clear_by 𝓕 i (get_or rows i [])) (clear_nil 𝓕 i (get_or rows i [])) (suc i) rows r h

    pub above_cleared : i < length rows → r < i → get_or (clear_above 𝓕 i rows) r [] ≡ clear_by 𝓕 i (get_or rows i []) (get_or rows r [])
    unfolding clear_above
    above_cleared l h = mapped_before (clear_by 𝓕 i (get_or rows i [])) (clear_nil 𝓕 i (get_or rows i [])) i _ rows r l h

    pub above_kept : i < length rows → i < r → get_or (clear_above 𝓕 i rows) r [] ≡ get_or rows r []
    unfolding clear_above
    above_kept l h = kept_after (clear_by 𝓕 i (get_or rows i [])) (clear_nil 𝓕 i (get_or rows i [])) i _ rows r l h

  pub above_scaled : (i : ℕ) (rows : List (List ℕ)) → i < length rows
      → get_or (clear_above 𝓕 i rows) i [] ≡ scale_row 𝓕 (𝓕.inv (entry rows i i)) (get_or rows i [])
  unfolding clear_above
  above_scaled i rows l = placed_at (clear_by 𝓕 i (get_or rows i [])) (clear_nil 𝓕 i (get_or rows i [])) i _ rows l

  pub length_below : (i : ℕ) (rows : List (List ℕ)) → length (clear_below 𝓕 i rows) ≡ length rows
  unfolding clear_below
  length_below i rows = simp (length-append, length-map, length-take, length-drop) (omega arith)

  pub length_above : (i : ℕ) (rows : List (List ℕ)) → i < length rows → length (clear_above 𝓕 i rows) ≡ length rows
  unfolding clear_above
  length_above i rows h = simp (length-append, length-map, length-take, length-drop) (omega arith)

  -- ---- rule 1 at i, and rule 2 at i, by cases

  pub forward_at_cases : (P : List (List ℕ) → Type 0) (i : ℕ) (rows : List (List ℕ))
      → (((r : ℕ) → i ≤ r → entry rows r i ≡ 0) → P rows)
      → ((j : ℕ) → i ≤ j → j < length rows → entry rows j i ≢ 0 → P (clear_below 𝓕 i (swap_rows rows i j)))
      → P (forward_at 𝓕 i rows)
  unfolding forward_at clear_pivoted
  forward_at_cases P i rows n s = go (pivot_from i rows) (pivot_spec i rows)
    where
      go : (o : Option ℕ) → Pivot i rows o → P (clear_pivoted 𝓕 i rows o)
      go none h = n h
      go (some j) h = s j h.0 h.1 h.2

  pub backward_at_cases : (P : List (List ℕ) → Type 0) (i : ℕ) (rows : List (List ℕ))
      → (entry rows i i ≡ 0 → P rows) → (entry rows i i ≢ 0 → P (clear_above 𝓕 i rows)) → P (backward_at 𝓕 i rows)
  unfolding backward_at
  backward_at_cases P i rows z n = go (entry rows i i) refl
    where
      go : (x : ℕ) → entry rows i i ≡ x → P (if_zero x rows (clear_above 𝓕 i rows))
      go zero e = z e
      go (suc x) e = n (λ g. suc-ne-zero x (sym e ∙ g))

  pub length_forward_at : (i : ℕ) (rows : List (List ℕ)) → length (forward_at 𝓕 i rows) ≡ length rows
  length_forward_at i rows =
      forward_at_cases (λ x. length x ≡ length rows) i rows (λ z. refl) (λ j ij hj n. length_below i (swap_rows rows i j) ∙ length_swap rows i j)

  pub length_backward_at : (i : ℕ) (rows : List (List ℕ)) → length (backward_at 𝓕 i rows) ≡ length rows
  length_backward_at i rows =
      backward_at_cases (λ x. length x ≡ length rows) i rows (λ z. refl) (λ n. length_above i rows (nonzero_row rows i i n))

  pub length_forward : (n : ℕ) (rows : List (List ℕ)) → length (forward 𝓕 n rows) ≡ length rows
  unfolding forward
  length_forward zero rows = refl
  length_forward (suc n) rows = length_forward_at n (forward 𝓕 n rows) ∙ length_forward n rows

  pub length_backward : (n : ℕ) (rows : List (List ℕ)) → length (backward 𝓕 n rows) ≡ length rows
  unfolding backward
  length_backward zero rows = refl
  length_backward (suc n) rows = length_backward n (backward_at 𝓕 n rows) ∙ length_backward_at n rows

  pub reduce_le : (k : ℕ) (rows : List (List ℕ)) → length (reduce 𝓕 k rows) ≤ length rows
  unfolding reduce
  reduce_le k rows =
      let n : ℕ = length rows in
      omega (arith, drop_empty_le k (backward 𝓕 n (forward 𝓕 n rows)), length_backward n (forward 𝓕 n rows), length_forward n rows)
