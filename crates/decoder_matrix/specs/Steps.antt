-- The steps inside the row rules.
use Rattle.std.specs.Prelude.{◌≡◌, ◌≢◌, ◌⊎◌, List, [], ◌++◌, map, ℕ, ◌≤◌, ◌<◌, length, get_or, take, drop, Option, None, Some}
use Rattle.std.proofs.Math.Option.{none, some}
use Rattle.std.specs.declared.ops.Range.{Range}
use Rattle.galois.specs.FieldLaws.{FieldLaws}
use Rattle.linear.specs.Rows.{entry, pivot_from, clear_by, drop_empty}
use Rattle.linear.specs.Buffer.{Ruled}
use Rattle.decoder_matrix.specs.declared.rules.Held.{Held}
use Rattle.decoder_matrix.specs.Matrix.{k_of, rows_in, with_rows, holding}

-- the rows held
abbrev pub rows_of_held : Held → List (List ℕ)
rows_of_held h = rows_in h.matrix h.elements.now

-- the matrix stays, the rows held are what the rule makes of them, and the bytes behind them stay
pub record Applied (rule : List (List ℕ) → List (List ℕ)) (old new : Held) : Type 0 where
  pub matrix : new.matrix ≡ old.matrix
  pub lent : new.elements.ghost_name ≡ old.elements.ghost_name
  pub ruled : Ruled old.matrix.cols old.matrix.rows old.elements.now new.elements.now (rule (rows_of_held old))

-- the rows that rule 3 keeps
abbrev pub kept_rows : Held → List (List ℕ)
kept_rows h = drop_empty (k_of h.matrix) (rows_of_held h)

-- rule 3: only they are held, and there are zeros behind them
pub record Emptied (old new : Held) : Type 0 where
  pub matrix : new.matrix ≡ with_rows old.matrix (length (kept_rows old))
  pub lent : new.elements.ghost_name ≡ old.elements.ghost_name
  pub left : new.elements.now ≡ holding old.matrix (kept_rows old) old.elements.now

-- the row that rule 1 swaps in at i, if there is one
abbrev pub IsPivot : ℕ → List (List ℕ) → Option ℕ → Type 0
IsPivot i rows None = pivot_from i rows ≡ none
IsPivot i rows (Some j) = pivot_from i rows ≡ some j

-- the rows from `from` up to `to`, column i of each cleared by row i
unfoldable pub clear_range : FieldLaws → ℕ → ℕ → ℕ → List (List ℕ) → List (List ℕ)
clear_range 𝓕 from to i rows = take from rows ++ (map (clear_by 𝓕 i (get_or rows i [])) (drop from (take to rows)) ++ drop to rows)

-- all rows named are held, and row i, which clears them, is none of them and not 0 in its column
pub record Clears (h : Held) (i : ℕ) (rows : Range ℕ) : Type 0 where
  pub order : rows.start ≤ rows.end
  pub held : rows.end ≤ h.matrix.rows
  pub row : i < h.matrix.rows
  pub outside : (i < rows.start) ⊎ (rows.end ≤ i)
  pub pivot : entry (rows_of_held h) i i ≢ 0
