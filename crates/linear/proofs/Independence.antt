-- The row rules read no entry but the first k of a row, and change those by those alone: so the coefficients of the rows, and with them their
-- number, are the same for any payloads.
-- Assumes nothing.
use mathlib.Core.Path.{◌≡◌, refl, sym, ap, ap₂, ◌∙◌}
use mathlib.Core.Bool.{Bool, true, false}
use mathlib.Core.List.{List, [], ◌∷◌, ◌++◌, map, map-append}
use mathlib.Core.Option.{Option, none, some}
use Prim.Native.Nat.{ℕ, zero, suc, ◌≤◌, ◌<◌}
use native.Mathlib.Nat.{le_refl}
use native.Mathlib.Omega.{arith}
use lib.ListN.{length, get_or, take, drop, set, length-map, length-append}
use lib.Seq.{get_or-take, take-take, take-nil}
use Rattle.galois.specs.Gf.{◌⊕◌}
use Rattle.galois.specs.FieldLaws.{FieldLaws}
use Rattle.linear.specs.Choice.{pick, if_zero}
use Rattle.linear.specs.Rows.{all_zero, entry, first_nonzero, pivot_from, swap_rows, add_multiple, scale_row, clear_by, clear_below, clear_pivoted, forward_at, forward, clear_above, backward_at, backward, drop_empty, reduce, take_piece}
use Rattle.linear.proofs.Steps.{get_or_map_nil}

-- ---- map, past the other functions of lists

module _ {A B : Type 0} (f : A → B) where
  map_take : (n : ℕ) (xs : List A) → map f (take n xs) ≡ take n (map f xs)
  map_take zero xs = refl
  map_take (suc n) [] = refl
  map_take (suc n) (x ∷ xs) = ap (λ (l : List B). f x ∷ l) (map_take n xs)

  map_drop : (n : ℕ) (xs : List A) → map f (drop n xs) ≡ drop n (map f xs)
  map_drop zero xs = refl
  map_drop (suc n) [] = refl
  map_drop (suc n) (x ∷ xs) = map_drop n xs

  map_set : (xs : List A) (i : ℕ) (a : A) → map f (set xs i a) ≡ set (map f xs) i (f a)
  map_set [] i a = refl
  map_set (x ∷ xs) zero a = refl
  map_set (x ∷ xs) (suc i) a = ap (λ (l : List B). f x ∷ l) (map_set xs i a)

map_through : {A : Type 0} (f g h : A → A) → ((x : A) → f (g x) ≡ h (f x)) → (xs : List A) → map f (map g xs) ≡ map h (map f xs)
map_through f g h e [] = refl
map_through {A = A} f g h e (x ∷ xs) = ap₂ (λ (y : A) (l : List A). y ∷ l) (e x) (map_through f g h e xs)

-- ---- the coefficients

module _ (k : ℕ) where
  row_of : (rows : List (List ℕ)) (r : ℕ) → get_or (map (take k) rows) r [] ≡ take k (get_or rows r [])
  row_of rows r = get_or_map_nil (take k) (take-nil k) rows r

  entry_of : (rows : List (List ℕ)) (r c : ℕ) → c < k → entry (map (take k) rows) r c ≡ entry rows r c
  unfolding entry
  entry_of rows r c h = ap (λ (x : List ℕ). get_or x c 0) (row_of rows r) ∙ get_or-take k (get_or rows r []) c 0 h

  first_of : (col at : ℕ) (rows : List (List ℕ)) → col < k → first_nonzero col at (map (take k) rows) ≡ first_nonzero col at rows
  unfolding first_nonzero
  first_of col at [] h = refl
  first_of col at (r ∷ rs) h =
      ap₂ (λ (x : ℕ) (o : Option ℕ). if_zero x o (some at)) (get_or-take k r col 0 h) (first_of col (suc at) rs h)

  pivot_of : (i : ℕ) (rows : List (List ℕ)) → i < k → pivot_from i (map (take k) rows) ≡ pivot_from i rows
  unfolding pivot_from
  pivot_of i rows h = ap (first_nonzero i i) (sym (map_drop (take k) i rows)) ∙ first_of i i (drop i rows) h

  swap_of : (rows : List (List ℕ)) (i j : ℕ) → map (take k) (swap_rows rows i j) ≡ swap_rows (map (take k) rows) i j
  unfolding swap_rows
  swap_of rows i j =
      map_set (take k) (set rows i (get_or rows j [])) j (get_or rows i [])
      ∙ ap₂ (λ (l : List (List ℕ)) (x : List ℕ). set l j x) (map_set (take k) rows i (get_or rows j [])) (sym (row_of rows i))
      ∙ ap (λ (x : List ℕ). set (set (map (take k) rows) i x) j (get_or (map (take k) rows) i [])) (sym (row_of rows j))

  drop_of : (rows : List (List ℕ)) → map (take k) (drop_empty k rows) ≡ drop_empty k (map (take k) rows)
  unfolding drop_empty
  drop_of [] = refl
  drop_of (r ∷ rs) =
      go (all_zero (take k r)) (drop_of rs)
      ∙ ap (λ (x : List ℕ). pick (all_zero x) (drop_empty k (map (take k) rs)) (take k r ∷ drop_empty k (map (take k) rs)))
      (sym (take-take k k r (le_refl k)))
    where
      go : (b : Bool) → map (take k) (drop_empty k rs) ≡ drop_empty k (map (take k) rs)
          → map (take k) (pick b (drop_empty k rs) (r ∷ drop_empty k rs))
          ≡ pick b (drop_empty k (map (take k) rs)) (take k r ∷ drop_empty k (map (take k) rs))
      go true ih = ih
      go false ih = ap (λ (l : List (List ℕ)). take k r ∷ l) ih

module _ (𝓕 : FieldLaws) where
  take_add : (k q : ℕ) (src dst : List ℕ) → take k (add_multiple 𝓕 q src dst) ≡ add_multiple 𝓕 q (take k src) (take k dst)
  unfolding add_multiple
  take_add zero q src dst = refl
  take_add (suc k) q [] dst = refl
  take_add (suc k) q (s ∷ src) [] = refl
  take_add (suc k) q (s ∷ src) (d ∷ dst) = ap (λ (l : List ℕ). (d ⊕ 𝓕.mul q s) ∷ l) (take_add k q src dst)

  take_scale : (k q : ℕ) (r : List ℕ) → take k (scale_row 𝓕 q r) ≡ scale_row 𝓕 q (take k r)
  unfolding scale_row
  take_scale zero q r = refl
  take_scale (suc k) q [] = refl
  take_scale (suc k) q (x ∷ xs) = ap (λ (l : List ℕ). 𝓕.mul q x ∷ l) (take_scale k q xs)

module _ (𝓕 : FieldLaws) (k : ℕ) where
  take_clear : (c : ℕ) (p r : List ℕ) → c < k → take k (clear_by 𝓕 c p r) ≡ clear_by 𝓕 c (take k p) (take k r)
  unfolding clear_by
  take_clear c p r h =
      take_add 𝓕 k _ p r
      ∙ ap (λ (q : ℕ). add_multiple 𝓕 q (take k p) (take k r))
      (ap₂ (λ (x y : ℕ). 𝓕.mul x (𝓕.inv y)) (sym (get_or-take k r c 0 h)) (sym (get_or-take k p c 0 h)))

  clears_of : (i : ℕ) (rows part : List (List ℕ)) → i < k
      → map (take k) (map (clear_by 𝓕 i (get_or rows i [])) part) ≡ map (clear_by 𝓕 i (get_or (map (take k) rows) i [])) (map (take k) part)
  clears_of i rows part h =
      map_through (take k) (clear_by 𝓕 i (get_or rows i [])) (clear_by 𝓕 i (get_or (map (take k) rows) i []))
      (λ r. take_clear i (get_or rows i []) r h ∙ ap (λ (p : List ℕ). clear_by 𝓕 i p (take k r)) (sym (row_of k rows i))) part

  below_of : (i : ℕ) (rows : List (List ℕ)) → i < k → map (take k) (clear_below 𝓕 i rows) ≡ clear_below 𝓕 i (map (take k) rows)
  unfolding clear_below
  below_of i rows h =
      map-append (take k) (take (suc i) rows) (map (clear_by 𝓕 i (get_or rows i [])) (drop (suc i) rows))
      ∙ ap₂ (λ (x y : List (List ℕ)). x ++ y) (map_take (take k) (suc i) rows)
      (clears_of i rows (drop (suc i) rows) h ∙ ap (map (clear_by 𝓕 i (get_or (map (take k) rows) i []))) (map_drop (take k) (suc i) rows))

  forward_at_of : (i : ℕ) (rows : List (List ℕ)) → i < k → map (take k) (forward_at 𝓕 i rows) ≡ forward_at 𝓕 i (map (take k) rows)
  unfolding forward_at clear_pivoted
  forward_at_of i rows h = go (pivot_from i rows) ∙ ap (clear_pivoted 𝓕 i (map (take k) rows)) (sym (pivot_of k i rows h))
    where
      go : (o : Option ℕ) → map (take k) (clear_pivoted 𝓕 i rows o) ≡ clear_pivoted 𝓕 i (map (take k) rows) o
      go none = refl
      go (some j) = below_of i (swap_rows rows i j) h ∙ ap (clear_below 𝓕 i) (swap_of k rows i j)

  forward_of : (n : ℕ) (rows : List (List ℕ)) → n ≤ k → map (take k) (forward 𝓕 n rows) ≡ forward 𝓕 n (map (take k) rows)
  unfolding forward
  forward_of zero rows h = refl
  forward_of (suc n) rows h = forward_at_of n (forward 𝓕 n rows) h ∙ ap (forward_at 𝓕 n) (forward_of n rows (omega arith))

  above_of : (i : ℕ) (rows : List (List ℕ)) → i < k → map (take k) (clear_above 𝓕 i rows) ≡ clear_above 𝓕 i (map (take k) rows)
  unfolding clear_above
  above_of i rows h =
      map-append (take k) (map (clear_by 𝓕 i (get_or rows i [])) (take i rows))
      (scale_row 𝓕 (𝓕.inv (entry rows i i)) (get_or rows i []) ∷ drop (suc i) rows)
      ∙ ap₂ (λ (x y : List (List ℕ)). x ++ y)
      (clears_of i rows (take i rows) h ∙ ap (map (clear_by 𝓕 i (get_or (map (take k) rows) i []))) (map_take (take k) i rows))
      (ap₂ (λ (x : List ℕ) (y : List (List ℕ)). x ∷ y)
      (take_scale 𝓕 k (𝓕.inv (entry rows i i)) (get_or rows i [])
      ∙ ap₂ (λ (q : ℕ) (r : List ℕ). scale_row 𝓕 (𝓕.inv q) r) (sym (entry_of k rows i i h)) (sym (row_of k rows i)))
      (map_drop (take k) (suc i) rows))

  backward_at_of : (i : ℕ) (rows : List (List ℕ)) → i < k → map (take k) (backward_at 𝓕 i rows) ≡ backward_at 𝓕 i (map (take k) rows)
  unfolding backward_at
  backward_at_of i rows h =
      go (entry rows i i)
      ∙ ap (λ (x : ℕ). if_zero x (map (take k) rows) (clear_above 𝓕 i (map (take k) rows))) (sym (entry_of k rows i i h))
    where
      go : (x : ℕ) → map (take k) (if_zero x rows (clear_above 𝓕 i rows)) ≡ if_zero x (map (take k) rows) (clear_above 𝓕 i (map (take k) rows))
      go zero = refl
      go (suc x) = above_of i rows h

  backward_of : (n : ℕ) (rows : List (List ℕ)) → n ≤ k → map (take k) (backward 𝓕 n rows) ≡ backward 𝓕 n (map (take k) rows)
  unfolding backward
  backward_of zero rows h = refl
  backward_of (suc n) rows h = backward_of n (backward_at 𝓕 n rows) (omega arith) ∙ ap (backward 𝓕 n) (backward_at_of n rows h)

  pub reduce_of : (rows : List (List ℕ)) → length rows ≤ k → map (take k) (reduce 𝓕 k rows) ≡ reduce 𝓕 k (map (take k) rows)
  unfolding reduce
  reduce_of rows h =
      let n : ℕ = length rows in
      drop_of k (backward 𝓕 n (forward 𝓕 n rows))
      ∙ ap (drop_empty k) (backward_of n (forward 𝓕 n rows) h ∙ ap (backward 𝓕 n) (forward_of n rows h))
      ∙ ap (λ (m : ℕ). drop_empty k (backward 𝓕 m (forward 𝓕 m (map (take k) rows)))) (sym (length-map rows (take k)))

  pub take_piece_of : (rows : List (List ℕ)) (piece : List ℕ) → length rows < k
      → map (take k) (take_piece 𝓕 k rows piece) ≡ take_piece 𝓕 k (map (take k) rows) (take k piece)
  unfolding take_piece
  take_piece_of rows piece h =
      reduce_of (rows ++ (piece ∷ [])) (omega (arith, length-append rows (piece ∷ []))) ∙ ap (reduce 𝓕 k) (map-append (take k) rows (piece ∷ []))

  -- two decoders with equal coefficients, given pieces with equal coefficients
  module _ (rows rows' : List (List ℕ)) (piece piece' : List ℕ) (h : length rows < k)
      (e : map (take k) rows ≡ map (take k) rows') (f : take k piece ≡ take k piece') where
    pub coefficients_of : map (take k) (take_piece 𝓕 k rows piece) ≡ map (take k) (take_piece 𝓕 k rows' piece')
    coefficients_of =
        let l : length rows' ≡ length rows = sym (length-map rows' (take k)) ∙ ap length (sym e) ∙ length-map rows (take k) in
        take_piece_of rows piece h ∙ ap₂ (take_piece 𝓕 k) e f ∙ sym (take_piece_of rows' piece' (omega arith))

    pub count_of : length (take_piece 𝓕 k rows piece) ≡ length (take_piece 𝓕 k rows' piece')
    count_of = sym (length-map (take_piece 𝓕 k rows piece) (take k)) ∙ ap length coefficients_of ∙ length-map (take_piece 𝓕 k rows' piece') (take k)
