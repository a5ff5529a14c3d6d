-- The search for a pivot, and rules 1 and 2 at one column.
-- Assumes nothing.
use mathlib.Core.Path.{◌≡◌, refl, sym, ap, ◌∙◌, subst}
use mathlib.Core.List.{List, []}
use mathlib.Core.Option.{none, some}
use Prim.Native.Nat.{ℕ, zero, suc, ◌+◌, ◌-◌, ◌*◌, ◌≤◌, ◌<◌}
use native.Mathlib.Nat.{not-suc-le-zero, suc-ne-zero, mul-le-mul_right}
use native.Mathlib.Numerals.{add-one, sub-one}
use native.Mathlib.Omega.{arith}
use lib.ListN.{length, get_or, take, drop, set, drop_of_length-le}
use lib.Seq.{drop-cons}
use Rattle.galois.specs.FieldLaws.{FieldLaws}
use Rattle.galois.specs.Quotient.{inverse_of}
use Rattle.std.specs.Prelude.{Some, None, IsSome}
use Rattle.linear.specs.Choice.{if_zero}
use Rattle.linear.specs.Rows.{entry, first_nonzero, pivot_from, swap_rows, scale_row, clear_below, clear_pivoted, forward_at, forward, clear_above, backward_at, backward, drop_empty, reduce}
use Rattle.linear.specs.Buffer.{rows_of, row_at, Ruled}
use Rattle.linear.proofs.Buffer.{put, put_same, length_part, row_end, length_rows_of, row_at_lem, put_row_lem}
use Rattle.linear.proofs.Pivot.{Pivot, pivot_spec}
use Rattle.linear.proofs.Steps.{swap_first}
use Rattle.linear.proofs.Sums.{length_scale}
use Rattle.linear.proofs.Flat.{further}
use Rattle.decoder_matrix.specs.Steps.{clear_range}
use Rattle.decoder_matrix.proofs.Range.{range_keeps, range_above}

-- ---- what an inverse answers

module _ (inv : ℕ → ℕ) where
  pub inverse_byte : (a v : ℕ) → inverse_of inv a ≡ Some v → v ≡ inv a
  unfolding inverse_of
  inverse_byte zero v e = cc
  inverse_byte (suc a) v e = cc

  pub inverse_there : (a : ℕ) → (a ≡ 0 → ⊥) → IsSome (inverse_of inv a)
  unfolding inverse_of
  inverse_there zero n = absurd (n refl)
  inverse_there (suc a) n = refl

  pub inverse_nonzero : (a v : ℕ) → inverse_of inv a ≡ Some v → a ≡ 0 → ⊥
  unfolding inverse_of
  inverse_nonzero zero v e z = let q : ◌≡◌ {A = ℕ} 0 1 = cc in omega arith
  inverse_nonzero (suc a) v e z = suc-ne-zero a z

  pub inverse_zero : (a : ℕ) → inverse_of inv a ≡ None → a ≡ 0
  unfolding inverse_of
  inverse_zero zero e = refl
  inverse_zero (suc a) e = cc

-- ---- the search for a pivot

module _ (col : ℕ) (rows : List (List ℕ)) where
  step : (j x : ℕ) → j < length rows → entry rows j col ≡ x → first_nonzero col j (drop j rows) ≡ if_zero x (first_nonzero col (suc j) (drop (suc j) rows)) (some j)
  unfolding first_nonzero entry
  step j x h e =
      ap (first_nonzero col j) (drop-cons rows j [] h)
      ∙ ap (λ (y : ℕ). if_zero y (first_nonzero col (suc j) (drop (suc j) rows)) (some j)) e

  -- past rows whose entries are 0
  goes_on : (d j : ℕ) → j + d ≤ length rows → ((r : ℕ) → j ≤ r → r < j + d → entry rows r col ≡ 0)
      → first_nonzero col j (drop j rows) ≡ first_nonzero col (j + d) (drop (j + d) rows)
  goes_on zero j h z = ap (λ (i : ℕ). first_nonzero col i (drop i rows)) (omega arith)
  goes_on (suc d) j h z =
      step j 0 (omega arith) (z j (omega arith) (omega arith)) ∙ goes_on d (suc j) (omega arith) (λ r l k. z r (omega arith) (omega arith))
      ∙ ap (λ (i : ℕ). first_nonzero col i (drop i rows)) (omega arith)

  module _ {i j : ℕ} (l : i ≤ j) (z : (r : ℕ) → i ≤ r → r < j → entry rows r col ≡ 0) where
    past : j ≤ length rows → first_nonzero col i (drop i rows) ≡ first_nonzero col j (drop j rows)
    past h =
        let e : i + (j - i) ≡ j = omega arith in
        goes_on (j - i) i (omega arith) (λ r k m. z r k (omega arith)) ∙ ap (λ (t : ℕ). first_nonzero col t (drop t rows)) e

    pub search_ends : j ≡ length rows → first_nonzero col i (drop i rows) ≡ none
    unfolding first_nonzero
    search_ends e = past (omega arith) ∙ ap (first_nonzero col j) (drop_of_length-le rows (omega arith))

    pub search_finds : j < length rows → (entry rows j col ≡ 0 → ⊥) → first_nonzero col i (drop i rows) ≡ some j
    search_finds h n = past (omega arith) ∙ go (entry rows j col) refl
      where
        go : (x : ℕ) → entry rows j col ≡ x → first_nonzero col j (drop j rows) ≡ some j
        go zero e = absurd (n e)
        go (suc x) e = step j (suc x) h e

-- the row found, swapped in
pub pivot_swapped : (i j : ℕ) (rows : List (List ℕ)) → i < length rows → pivot_from i rows ≡ some j → (j < length rows) × (entry (swap_rows rows i j) i i ≡ 0 → ⊥)
unfolding entry
pivot_swapped i j rows h e =
    let p : Pivot i rows (some j) = subst (Pivot i rows) e (pivot_spec i rows) in
    (p.1, λ z. p.2 (ap (λ (r : List ℕ). get_or r i 0) (sym (swap_first rows i j h p.1)) ∙ z))

module _ (𝓕 : FieldLaws) where
  -- ---- rule 1 at i

  module _ (i : ℕ) (rows : List (List ℕ)) where
    pub forward_skips : pivot_from i (forward 𝓕 i rows) ≡ none → forward 𝓕 (i + 1) rows ≡ forward 𝓕 i rows
    unfolding forward forward_at clear_pivoted
    forward_skips e = ap (λ (k : ℕ). forward 𝓕 k rows) (add-one i) ∙ ap (clear_pivoted 𝓕 i (forward 𝓕 i rows)) e

    pub forward_clears : (j : ℕ) → pivot_from i (forward 𝓕 i rows) ≡ some j → forward 𝓕 (i + 1) rows ≡ clear_below 𝓕 i (swap_rows (forward 𝓕 i rows) i j)
    unfolding forward forward_at clear_pivoted
    forward_clears j e = ap (λ (k : ℕ). forward 𝓕 k rows) (add-one i) ∙ ap (clear_pivoted 𝓕 i (forward 𝓕 i rows)) e

    -- ---- rule 2 at i

    pub backward_skips : entry rows i i ≡ 0 → backward_at 𝓕 i rows ≡ rows
    unfolding backward_at
    backward_skips z = ap (λ (x : ℕ). if_zero x rows (clear_above 𝓕 i rows)) z

    backward_clears : (entry rows i i ≡ 0 → ⊥) → backward_at 𝓕 i rows ≡ clear_above 𝓕 i rows
    unfolding backward_at
    backward_clears n = go (entry rows i i) refl
      where
        go : (x : ℕ) → entry rows i i ≡ x → if_zero (entry rows i i) rows (clear_above 𝓕 i rows) ≡ clear_above 𝓕 i rows
        go zero e = absurd (n e)
        go (suc x) e = ap (λ (y : ℕ). if_zero y rows (clear_above 𝓕 i rows)) e

  pub backward_step : (i : ℕ) (rows : List (List ℕ)) → 0 < i → backward 𝓕 (i - 1) (backward_at 𝓕 (i - 1) rows) ≡ backward 𝓕 i rows
  unfolding backward
  backward_step zero rows h = absurd (not-suc-le-zero h)
  backward_step (suc i) rows h = ap (λ (k : ℕ). backward 𝓕 k (backward_at 𝓕 k rows)) (sub-one (suc i))

  -- the rows above cleared, and row i scaled in its place
  pub above_done : (f n i v k : ℕ) {old mid part : List ℕ} → i < n → n * f ≤ length mid → k ≡ f
      → (entry (rows_of f n old) i i ≡ 0 → ⊥) → v ≡ 𝓕.inv (entry (rows_of f n old) i i)
      → Ruled f n old mid (clear_range 𝓕 0 i i (rows_of f n old)) → part ≡ scale_row 𝓕 v (take k (drop (i * f) mid))
      → Ruled f n old (put (i * f) k part mid) (backward_at 𝓕 i (rows_of f n old))
  above_done f n i v k {old} {mid} {part} h w g nz ev u ep =
      let rows : List (List ℕ) = rows_of f n old in
      let row : List ℕ = scale_row 𝓕 v (row_at f i mid) in
      let held : i < length rows = rw length_rows_of h in
      let same : row_at f i mid ≡ get_or rows i [] = sym (row_at_lem f n i mid h) ∙ ap (λ (l : List (List ℕ)). get_or l i []) u.rows ∙ range_keeps 𝓕 i rows held in
      let size : length row ≡ f = length_scale 𝓕 v (row_at f i mid) ∙ length_part (i * f) f mid (omega (arith, row_end f h)) in
      let s : Ruled f n mid (put (i * f) k part mid) (set (rows_of f n mid) i row) =
      put_row_lem f n mid i row h w size (put_same (i * f) mid g (ep ∙ ap (λ (x : ℕ). scale_row 𝓕 v (take x (drop (i * f) mid))) g)) in
      record {
        rows =
            s.rows ∙ ap (λ (l : List (List ℕ)). set l i row) u.rows
            ∙ range_above 𝓕 i rows held (λ x. scale_row 𝓕 (ev x) (same x)) ∙ sym (backward_clears i rows nz);
        rest = s.rest ∙ u.rest;
      }

  -- ---- rules 1, 2 and 3

  pub rules : (f n k : ℕ) (a b c : List ℕ) → Ruled f n a b (forward 𝓕 n (rows_of f n a)) → Ruled f n b c (backward 𝓕 n (rows_of f n b)) → n ≤ k
      → (drop_empty k (rows_of f n c) ≡ reduce 𝓕 k (rows_of f n a)) × (drop (k * f) c ≡ drop (k * f) a)
  unfolding reduce
  rules f n k a b c u w h =
      let e : n ≡ length (rows_of f n a) = sym (length_rows_of f n a) in (
        ap (drop_empty k) (w.rows ∙ ap (backward 𝓕 n) u.rows) ∙ ap (λ (i : ℕ). drop_empty k (backward 𝓕 i (forward 𝓕 i (rows_of f n a)))) e,
        further (n * f) (k * f) c a (mul-le-mul_right f h) (w.rest ∙ u.rest),
      )
