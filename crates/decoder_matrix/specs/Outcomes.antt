-- What each function of a matrix answers, and the bytes that it leaves in the buffer lent.
use Rattle.std.specs.Prelude.{◌≡◌, Bool, ◌&&◌, List, ◌++◌, ℕ, ◌+◌, ◌*◌, ltb, eqb, length, drop, Result, Ok, Err}
use Rattle.answers.specs.Number.{Answer}
use Rattle.answers.specs.declared.RLNCError.{RLNCError}
use Rattle.answers.specs.declared.RLNCError.TheVariants.{InvalidPieceLength, BadState}
use Rattle.galois.specs.FieldLaws.{FieldLaws}
use Rattle.linear.specs.Choice.{pick}
use Rattle.linear.specs.Rows.{swap_rows, reduce}
use Rattle.linear.specs.Buffer.{put_row, flat}
use Rattle.decoder_matrix.specs.declared.DecoderMatrix.{DecoderMatrix}
use Rattle.decoder_matrix.specs.Matrix.{k_of, sizes_fit, rows_in, with_rows, holding}

-- there is room for one row more
abbrev pub has_room : DecoderMatrix → ℕ → Bool
has_room m n = sizes_fit m n && ltb m.rows (k_of m)

-- "Taking a piece appends it as a row". No room is 22, then another length than a row's 12: nothing changes
pub record RowAdded (m : DecoderMatrix) (elements row : List ℕ) (r : Result DecoderMatrix RLNCError) (last : List ℕ) : Type 0 where
  pub answer : r ≡ pick (has_room m (length elements)) (pick (eqb (length row) m.cols) (Ok (with_rows m (m.rows + 1))) (Err InvalidPieceLength)) (Err BadState)
  pub left : last ≡ pick (has_room m (length elements) && eqb (length row) m.cols) (put_row m.cols m.rows row elements) elements

-- both rows are held
abbrev pub holds_rows : DecoderMatrix → ℕ → ℕ → ℕ → Bool
holds_rows m n i j = sizes_fit m n && (ltb i m.rows && ltb j m.rows)

-- two rows exchanged. 22 where one of them is not held: nothing changes
pub record Swapped (m : DecoderMatrix) (elements : List ℕ) (i j : ℕ) (r : Answer) (last : List ℕ) : Type 0 where
  pub answer : r ≡ pick (holds_rows m (length elements) i j) (Ok tt) (Err BadState)
  pub left : last ≡ pick (holds_rows m (length elements) i j) (flat (swap_rows (rows_in m elements) i j) ++ drop (m.rows * m.cols) elements) elements

-- the rows that rules 1, 2 and 3 leave
abbrev pub reduced : FieldLaws → DecoderMatrix → List ℕ → List (List ℕ)
reduced 𝓕 m elements = reduce 𝓕 (k_of m) (rows_in m elements)

-- rules 1, 2 and 3. 22 where the sizes do not fit: nothing changes
pub record Reduced (𝓕 : FieldLaws) (m : DecoderMatrix) (elements : List ℕ) (r : Result DecoderMatrix RLNCError) (last : List ℕ) : Type 0 where
  pub answer : r ≡ pick (sizes_fit m (length elements)) (Ok (with_rows m (length (reduced 𝓕 m elements)))) (Err BadState)
  pub left : last ≡ pick (sizes_fit m (length elements)) (holding m (reduced 𝓕 m elements) elements) elements
