-- The entries of the encoder: each one's order of refusals, its result and what it leaves in the lent buffer.
use Rattle.std.specs.Prelude.{◌≡◌, Bool, ◌||◌, not, List, ◌++◌, ℕ, ◌+◌, ◌*◌, ◌/◌, eqb, ltb, length, drop, Result, Ok, Err}
use Rattle.answers.specs.Number.{Answer}
use Rattle.answers.specs.declared.RLNCError.{RLNCError}
use Rattle.answers.specs.declared.RLNCError.TheVariants.{CodingVectorLengthMismatch, DataLengthMismatch, PieceCountZero, DataLengthZero, InvalidOutputBuffer, SizeOverLimit, NoRoom, BadState}
use Rattle.galois.specs.FieldLaws.{FieldLaws}
use Rattle.linear.specs.Choice.{pick}
use Rattle.linear.specs.Buffer.{rows_of}
use Rattle.linear.specs.Pieces.{combine, encode}
use Rattle.block.specs.Sizes.{over_limit, sized}
use Rattle.block.specs.Refusal.{if_ok}
use Rattle.block.specs.Padding.{piece_length, padded}
use Rattle.encoder.specs.declared.Encoder.{Encoder}
use Rattle.encoder.specs.Made.{made}

-- "padded block: 4, 3, 20, 21", of n data bytes in k pieces, with room for so many bytes
unfoldable pub padded_refusal : ℕ → ℕ → ℕ → Answer
padded_refusal n k room =
    pick (eqb n 0) (Err DataLengthZero)
    (pick (eqb k 0) (Err PieceCountZero)
    (pick (over_limit k (piece_length n k)) (Err SizeOverLimit)
    (pick (ltb room (k * piece_length n k)) (Err NoRoom) (Ok tt))))

pub record NewPadded (M : ℕ) (bytes block : List ℕ) (k : ℕ) (r : Result Encoder RLNCError) (last : List ℕ) : Type 0 where
  pub result : r ≡ made (padded_refusal (length bytes) k (length block)) k (piece_length (length bytes) k)
  pub left : last ≡ if_ok (padded_refusal (length bytes) k (length block)) (padded M k bytes ++ drop (k * piece_length (length bytes) k) block) block

-- "unpadded: 4, 3, 2, 20": 2 where the data does not make k equal pieces
unfoldable pub unpadded_refusal : ℕ → ℕ → Answer
unpadded_refusal n k =
    pick (eqb n 0) (Err DataLengthZero)
    (pick (eqb k 0) (Err PieceCountZero)
    (pick (not (eqb (k * (n / k)) n)) (Err DataLengthMismatch)
    (pick (over_limit k (n / k)) (Err SizeOverLimit) (Ok tt))))

pub record NewUnpadded (n k : ℕ) (r : Result Encoder RLNCError) : Type 0 where
  pub result : r ≡ made (unpadded_refusal n k) k (n / k)

-- "record numbers outside the limits .., or a lent buffer shorter than the record needs"
unfoldable pub bad_state : Encoder → ℕ → Bool
bad_state e room = not (sized e.piece_count e.piece_byte_len) || ltb room (e.piece_count * e.piece_byte_len)

-- "payload only (`code_with_coding_vector`): 22, 1, 13", with a block, a vector and an output of these lengths
unfoldable pub code_refusal : Encoder → ℕ → ℕ → ℕ → Answer
code_refusal e block vector out =
    pick (bad_state e block) (Err BadState)
    (pick (not (eqb vector e.piece_count)) (Err CodingVectorLengthMismatch)
    (pick (not (eqb out e.piece_byte_len)) (Err InvalidOutputBuffer) (Ok tt)))

pub record Coded (𝓕 : FieldLaws) (e : Encoder) (block vector out : List ℕ) (r : Answer) (last : List ℕ) : Type 0 where
  pub result : r ≡ code_refusal e (length block) (length vector) (length out)
  pub left : last ≡ if_ok (code_refusal e (length block) (length vector) (length out)) (combine 𝓕 e.piece_byte_len vector (rows_of e.piece_byte_len e.piece_count block)) out

-- "whole piece (`code_with_buf`): 22, 13, 1"
unfoldable pub code_whole_refusal : Encoder → ℕ → ℕ → ℕ → Answer
code_whole_refusal e block vector out =
    pick (bad_state e block) (Err BadState)
    (pick (not (eqb out (e.piece_count + e.piece_byte_len))) (Err InvalidOutputBuffer)
    (pick (not (eqb vector e.piece_count)) (Err CodingVectorLengthMismatch) (Ok tt)))

pub record CodedWhole (𝓕 : FieldLaws) (e : Encoder) (block vector out : List ℕ) (r : Answer) (last : List ℕ) : Type 0 where
  pub result : r ≡ code_whole_refusal e (length block) (length vector) (length out)
  pub left : last ≡ if_ok (code_whole_refusal e (length block) (length vector) (length out)) (encode 𝓕 e.piece_byte_len (rows_of e.piece_byte_len e.piece_count block) vector) out
