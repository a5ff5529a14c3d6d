-- The row rules of the paper's section 'Rows', on a list of rows, over any field. A row is k coefficients and then its payload. The rules take
-- rows of any width, so that they serve whole pieces and coefficients alone.
use Rattle.std.specs.Prelude.{Bool, true, false, List, [], ◌∷◌, ◌++◌, map, ℕ, zero, suc, length, get_or, take, drop, set}
use Rattle.std.proofs.Math.Option.{Option, none, some}
use Rattle.galois.specs.Gf.{◌⊕◌}
use Rattle.galois.specs.FieldLaws.{FieldLaws}
use Rattle.linear.specs.Choice.{pick, if_zero}

-- entry (i, j)
unfoldable pub entry : List (List ℕ) → ℕ → ℕ → ℕ
entry rows i j = get_or (get_or rows i []) j 0

-- no entry is nonzero
unfoldable pub all_zero : List ℕ → Bool
all_zero [] = true
all_zero (x ∷ xs) = if_zero x (all_zero xs) false

-- the first of the rows, counted from `at`, whose entry in column `col` is nonzero
unfoldable pub first_nonzero : ℕ → ℕ → List (List ℕ) → Option ℕ
first_nonzero col at [] = none
first_nonzero col at (r ∷ rs) = if_zero (get_or r col 0) (first_nonzero col (suc at) rs) (some at)

-- "if entry (i, i) is 0, swap in the first row below whose entry in column i is nonzero": row i itself where (i, i) is not 0
unfoldable pub pivot_from : ℕ → List (List ℕ) → Option ℕ
pivot_from i rows = first_nonzero i i (drop i rows)

unfoldable pub swap_rows : List (List ℕ) → ℕ → ℕ → List (List ℕ)
swap_rows rows i j = set (set rows i (get_or rows j [])) j (get_or rows i [])

-- rule 3: "Drop every row whose coefficients are all 0, keeping the order."
unfoldable pub drop_empty : ℕ → List (List ℕ) → List (List ℕ)
drop_empty k [] = []
drop_empty k (r ∷ rs) = pick (all_zero (take k r)) (drop_empty k rs) (r ∷ drop_empty k rs)

module _ (𝓕 : FieldLaws) where
  -- each entry of dst plus q times that of src
  unfoldable pub add_multiple : ℕ → List ℕ → List ℕ → List ℕ
  add_multiple q [] dst = dst
  add_multiple q (s ∷ src) [] = []
  add_multiple q (s ∷ src) (d ∷ dst) = (d ⊕ 𝓕.mul q s) ∷ add_multiple q src dst

  -- each entry times q
  unfoldable pub scale_row : ℕ → List ℕ → List ℕ
  scale_row q [] = []
  scale_row q (x ∷ xs) = 𝓕.mul q x ∷ scale_row q xs

  -- column `col` of a row cleared "by adding a multiple" of the pivot row, "payload included"
  unfoldable pub clear_by : ℕ → List ℕ → List ℕ → List ℕ
  clear_by col pivot r = add_multiple (𝓕.mul (get_or r col 0) (𝓕.inv (get_or pivot col 0))) pivot r

  -- rule 1 at i, its pivot in place: "Clear column i in all rows below"
  unfoldable pub clear_below : ℕ → List (List ℕ) → List (List ℕ)
  clear_below i rows = take (suc i) rows ++ map (clear_by i (get_or rows i [])) (drop (suc i) rows)

  -- rule 1 at i: "if there is none, go on to the next i"
  unfoldable pub clear_pivoted : ℕ → List (List ℕ) → Option ℕ → List (List ℕ)
  clear_pivoted i rows none = rows
  clear_pivoted i rows (some j) = clear_below i (swap_rows rows i j)

  unfoldable pub forward_at : ℕ → List (List ℕ) → List (List ℕ)
  forward_at i rows = clear_pivoted i rows (pivot_from i rows)

  -- rule 1: "For i = 0, 1, .." below n
  unfoldable pub forward : ℕ → List (List ℕ) → List (List ℕ)
  forward zero rows = rows
  forward (suc n) rows = forward_at n (forward n rows)

  -- rule 2 at i, where (i, i) is not 0: "Clear column i above. Scale row i so that (i, i) is 1."
  unfoldable pub clear_above : ℕ → List (List ℕ) → List (List ℕ)
  clear_above i rows = map (clear_by i (get_or rows i [])) (take i rows) ++ (scale_row (𝓕.inv (entry rows i i)) (get_or rows i []) ∷ drop (suc i) rows)

  -- "skip if (i, i) is 0"
  unfoldable pub backward_at : ℕ → List (List ℕ) → List (List ℕ)
  backward_at i rows = if_zero (entry rows i i) rows (clear_above i rows)

  -- rule 2: "For i downward" from n - 1
  unfoldable pub backward : ℕ → List (List ℕ) → List (List ℕ)
  backward zero rows = rows
  backward (suc n) rows = backward n (backward_at n rows)

  -- rules 1, 2 and 3
  unfoldable pub reduce : ℕ → List (List ℕ) → List (List ℕ)
  reduce k rows = drop_empty k (backward (length rows) (forward (length rows) rows))

  -- "Taking a piece appends it as a row; then" the rules
  unfoldable pub take_piece : ℕ → List (List ℕ) → List ℕ → List (List ℕ)
  take_piece k rows piece = reduce k (rows ++ (piece ∷ []))
