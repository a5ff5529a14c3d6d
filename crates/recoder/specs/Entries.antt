-- The entries of the recoder: each one's order of refusals, its result and what it leaves in the lent buffer.
use Rattle.std.specs.Prelude.{◌≡◌, Bool, ◌&&◌, ◌||◌, not, List, ℕ, ◌-◌, ◌*◌, ◌/◌, eqb, leb, ltb, length, Result, Ok, Err}
use Rattle.answers.specs.Number.{Answer}
use Rattle.answers.specs.declared.RLNCError.{RLNCError}
use Rattle.answers.specs.declared.RLNCError.TheVariants.{CodingVectorLengthMismatch, PieceCountZero, PieceLengthZero, NotEnoughPiecesToRecode, PieceLengthTooShort, InvalidOutputBuffer, SizeOverLimit, BadState}
use Rattle.galois.specs.FieldLaws.{FieldLaws}
use Rattle.linear.specs.Choice.{pick}
use Rattle.linear.specs.Buffer.{rows_of}
use Rattle.linear.specs.Pieces.{recode}
use Rattle.block.specs.Sizes.{over_limit, sized}
use Rattle.block.specs.Refusal.{if_ok}
use Rattle.recoder.specs.declared.Recoder.{Recoder}
use Rattle.recoder.specs.Made.{made}

-- "new recoder: 6 (no data), 5 (F is 0), 3, 7 (F ≤ k), 6 (less than one whole piece), 20", of n bytes; 20 also for "over 256 pieces to recode"
unfoldable pub new_refusal : ℕ → ℕ → ℕ → Answer
new_refusal n width k =
    pick (eqb n 0) (Err NotEnoughPiecesToRecode)
    (pick (eqb width 0) (Err PieceLengthZero)
    (pick (eqb k 0) (Err PieceCountZero)
    (pick (leb width k) (Err PieceLengthTooShort)
    (pick (eqb (n / width) 0) (Err NotEnoughPiecesToRecode)
    (pick (ltb 256 (n / width) || over_limit k (width - k)) (Err SizeOverLimit) (Ok tt))))))

pub record NewRecoder (n width k : ℕ) (r : Result Recoder RLNCError) : Type 0 where
  pub result : r ≡ made (new_refusal n width k) (n / width) width k

-- the record's numbers are within the limits, and none is 0
unfoldable pub sound : Recoder → Bool
sound d =
    not (leb d.full_coded_piece_byte_len d.num_pieces_coded_together)
    && (not (eqb d.num_pieces_received 0)
    && (not (ltb 256 d.num_pieces_received)
    && sized d.num_pieces_coded_together (d.full_coded_piece_byte_len - d.num_pieces_coded_together)))

unfoldable pub bad_state : Recoder → ℕ → Bool
bad_state d room = not (sound d) || ltb room (d.num_pieces_received * d.full_coded_piece_byte_len)

-- "recode: 22, 13, 1", with pieces, a vector and an output of these lengths
unfoldable pub recode_refusal : Recoder → ℕ → ℕ → ℕ → Answer
recode_refusal d pieces vector out =
    pick (bad_state d pieces) (Err BadState)
    (pick (not (eqb out d.full_coded_piece_byte_len)) (Err InvalidOutputBuffer)
    (pick (not (eqb vector d.num_pieces_received)) (Err CodingVectorLengthMismatch) (Ok tt)))

pub record Recoded (𝓕 : FieldLaws) (d : Recoder) (pieces vector out : List ℕ) (r : Answer) (last : List ℕ) : Type 0 where
  pub result : r ≡ recode_refusal d (length pieces) (length vector) (length out)
  pub left : last ≡ if_ok (recode_refusal d (length pieces) (length vector) (length out)) (recode 𝓕 d.full_coded_piece_byte_len (rows_of d.full_coded_piece_byte_len d.num_pieces_received pieces) vector) out
