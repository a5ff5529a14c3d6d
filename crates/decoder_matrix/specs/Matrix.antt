-- A matrix and the buffer lent beside it: what of the buffer is the matrix, and when the two fit.
use Rattle.std.specs.Prelude.{Bool, ◌&&◌, List, [], ◌∷◌, ℕ, ◌*◌, leb, Result, Ok, Err}
use Rattle.answers.specs.declared.RLNCError.{RLNCError}
use Rattle.linear.specs.Buffer.{rows_of, holding as held}
use Rattle.decoder_matrix.specs.declared.DecoderMatrix.{DecoderMatrix}

-- k, the number of coefficients of a row
abbrev pub k_of : DecoderMatrix → ℕ
k_of m = m.num_pieces_coded_together

-- the values of an answer: the record's numbers, or none
abbrev pub values_of_matrix : Result DecoderMatrix RLNCError → List ℕ
values_of_matrix (Ok m) = k_of m ∷ m.rows ∷ m.cols ∷ []
values_of_matrix (Err e) = []

-- the sizes fit a buffer of n bytes: no more rows than k, no more coefficients than columns, and room for k rows
unfoldable pub sizes_fit : DecoderMatrix → ℕ → Bool
sizes_fit m n = leb m.rows (k_of m) && (leb (k_of m) m.cols && leb (k_of m * m.cols) n)

-- the rows held at the front of the buffer
abbrev pub rows_in : DecoderMatrix → List ℕ → List (List ℕ)
rows_in m elements = rows_of m.cols m.rows elements

-- the same matrix with n rows
abbrev pub with_rows : DecoderMatrix → ℕ → DecoderMatrix
with_rows m n = record { num_pieces_coded_together = m.num_pieces_coded_together; rows = n; cols = m.cols }

-- the buffer with these rows held: then zeros up to k rows, and the bytes behind them stay
abbrev pub holding : DecoderMatrix → List (List ℕ) → List ℕ → List ℕ
holding m rows elements = held (k_of m) m.cols rows elements
