-- The entries of the decoder: each one's order of refusals, its result and what it leaves in the lent buffers.
use Rattle.std.specs.Prelude.{◌≡◌, Bool, not, List, ◌++◌, map, ℕ, ◌+◌, ◌*◌, eqb, leb, ltb, length, take, drop, replicate, Result, Ok, Err}
use Rattle.answers.specs.Number.{Answer}
use Rattle.answers.specs.declared.RLNCError.{RLNCError}
use Rattle.answers.specs.declared.RLNCError.TheVariants.{PieceCountZero, PieceLengthZero, ReceivedAllPieces, NotAllPiecesReceivedYet, InvalidPieceLength, SizeOverLimit, NoRoom, BadState, TooManyTaken}
use Rattle.galois.specs.FieldLaws.{FieldLaws}
use Rattle.linear.specs.Choice.{pick}
use Rattle.linear.specs.Rows.{take_piece}
use Rattle.linear.specs.Buffer.{rows_of, flat, holding}
use Rattle.block.specs.Sizes.{over_limit}
use Rattle.block.specs.Refusal.{if_ok, answered}
use Rattle.block.specs.Reading.{reading, answer_of, data_length}
use Rattle.decoder.specs.declared.Decoder.{Decoder}
use Rattle.decoder.specs.declared.Taken.{Taken}
use Rattle.decoder.specs.declared.Taken.TheVariants.{Useful, NotUseful}
use Rattle.decoder.specs.Records.{k_of, l_of, f_of, rows_in, taken_by, taken_limit, sound, bad_state, held_rows}

-- the record of k pieces of L bytes with these counts
abbrev pub decoder_of : ℕ → ℕ → ℕ → ℕ → Decoder
decoder_of k L rows taken =
    record { required_piece_count = k; piece_byte_len = L; useful_piece_count = record { 0 = rows }; received_piece_count = record { 0 = taken } }

-- "new decoder: 5, 3, 20, 21", with room for so many bytes
unfoldable pub new_refusal : ℕ → ℕ → ℕ → Answer
new_refusal L k room =
    pick (eqb L 0) (Err PieceLengthZero)
    (pick (eqb k 0) (Err PieceCountZero)
    (pick (over_limit k L) (Err SizeOverLimit)
    (pick (ltb room (k * (k + L))) (Err NoRoom) (Ok tt))))

-- "A new decoder clears the first k·F bytes."
pub record NewDecoder (L k : ℕ) (elements : List ℕ) (r : Result Decoder RLNCError) (last : List ℕ) : Type 0 where
  pub result : r ≡ answered (new_refusal L k (length elements)) (decoder_of k L 0 0)
  pub left : last ≡ if_ok (new_refusal L k (length elements)) (replicate (k * (k + L)) 0 ++ drop (k * (k + L)) elements) elements

-- "take a piece: 22, 9, 12, 23", with a matrix and a piece of these lengths
unfoldable pub take_refusal : Decoder → ℕ → ℕ → Answer
take_refusal d room size =
    pick (bad_state d room) (Err BadState)
    (pick (eqb (rows_in d) (k_of d)) (Err ReceivedAllPieces)
    (pick (not (eqb size (f_of d))) (Err InvalidPieceLength)
    (pick (leb taken_limit (taken_by d)) (Err TooManyTaken) (Ok tt))))

-- the rows after the piece
unfoldable pub rows_after : FieldLaws → Decoder → List ℕ → List ℕ → List (List ℕ)
rows_after 𝓕 d elements full = take_piece 𝓕 (k_of d) (held_rows d elements) full

-- the record after it: as many rows, and one piece more taken
unfoldable pub after : FieldLaws → Decoder → List ℕ → List ℕ → Decoder
after 𝓕 d elements full = decoder_of (k_of d) (l_of d) (length (rows_after 𝓕 d elements full)) (taken_by d + 1)

-- "The answer is 8 if the row count is what it was before, else 0."
unfoldable pub taking : FieldLaws → Decoder → List ℕ → List ℕ → Taken
taking 𝓕 d elements full =
    pick (eqb (length (rows_after 𝓕 d elements full)) (rows_in d)) (NotUseful (after 𝓕 d elements full)) (Useful (after 𝓕 d elements full))

-- "A taken piece leaves zeros from the last held row up to k·F, that row itself kept. Bytes past k·F never change."
pub record Decoded (𝓕 : FieldLaws) (d : Decoder) (elements full : List ℕ) (r : Result Taken RLNCError) (last : List ℕ) : Type 0 where
  pub result : r ≡ answered (take_refusal d (length elements) (length full)) (taking 𝓕 d elements full)
  pub left : last ≡ if_ok (take_refusal d (length elements) (length full)) (holding (k_of d) (f_of d) (rows_after 𝓕 d elements full) elements) elements

-- "The decoder is complete when rows = k."
unfoldable pub completed : Decoder → Result Bool RLNCError
completed d = pick (sound d) (Ok (eqb (rows_in d) (k_of d))) (Err BadState)

-- the block that the k rows hold, as one list: the payloads in row order
unfoldable pub block_in : Decoder → List ℕ → List ℕ
block_in d elements = flat (map (drop (k_of d)) (rows_of (f_of d) (k_of d) elements))

-- "recover: 22, 10, 21, 11", with a matrix, and room for so many bytes
unfoldable pub recover_refusal : ℕ → Decoder → List ℕ → ℕ → Answer
recover_refusal M d elements room =
    pick (bad_state d (length elements)) (Err BadState)
    (pick (not (eqb (rows_in d) (k_of d))) (Err NotAllPiecesReceivedYet)
    (pick (ltb room (k_of d * l_of d)) (Err NoRoom)
    (answer_of (reading M (block_in d elements)))))

-- "Recovery writes that many bytes; the rest of the buffer, the matrix and the record stay."
pub record Recovery (M : ℕ) (d : Decoder) (elements out : List ℕ) (r : Result ℕ RLNCError) (last : List ℕ) : Type 0 where
  pub result : r ≡ answered (recover_refusal M d elements (length out)) (data_length (reading M (block_in d elements)))
  pub left : last ≡ if_ok (recover_refusal M d elements (length out)) (take (data_length (reading M (block_in d elements))) (block_in d elements) ++ drop (data_length (reading M (block_in d elements))) out) out
