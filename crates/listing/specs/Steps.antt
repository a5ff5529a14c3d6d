-- The steps of the program: each one's order of refusals, its result and what it leaves in the lent buffers.
use Rattle.std.specs.Prelude.{◌≡◌, List, ◌++◌, ℕ, ◌+◌, ◌*◌, leb, ltb, length, drop, Option, None, Some, Result, Ok, Err}
use Rattle.answers.specs.Number.{Answer, number_of}
use Rattle.answers.specs.declared.RLNCError.{RLNCError}
use Rattle.answers.specs.declared.RLNCError.TheVariants.{NoRoom, BadState}
use Rattle.galois.specs.FieldLaws.{FieldLaws}
use Rattle.linear.specs.Choice.{pick}
use Rattle.block.specs.Refusal.{if_ok, answered}
use Rattle.stream.specs.declared.Geometry.{Geometry}
use Rattle.stream.specs.Geometries.{pieces_of, length_of}
use Rattle.stream.specs.Streams.{largest}
use Rattle.decoder.specs.declared.Decoder.{Decoder}
use Rattle.decoder.specs.Entries.{new_refusal}
use Rattle.decoder.specs.Calls.{number_next, record_next, buffer_next}
use Rattle.listing.specs.declared.join.Joining.{Joining}
use Rattle.listing.specs.declared.join.Step.{Step}
use Rattle.listing.specs.declared.join.End.{End}
use Rattle.listing.specs.Joining.{decoder_for, matrix_for, joined, line_of, joined_after, elements_after, line_for}
use Rattle.listing.specs.Listing.{end_answer, data_of, end_lines}

-- the longest line of a piece
abbrev pub line_room : ℕ
line_room = 84

-- the first piece asks for the matrix of a new decoder
unfoldable pub start_refusal : Option Decoder → Geometry → ℕ → Answer
start_refusal None g room = new_refusal (length_of g) (pieces_of g) room
start_refusal (Some d) g room = Ok tt

-- the decoder that takes the piece
pub record Started (held : Option Decoder) (g : Geometry) (elements : List ℕ) (r : Result Decoder RLNCError) (matrix : List ℕ) : Type 0 where
  pub result : r ≡ answered (start_refusal held g (length elements)) (decoder_for g held)
  pub left : matrix ≡ if_ok (start_refusal held g (length elements)) (matrix_for g held elements) elements

-- a piece, with a matrix and an output of these lengths: 21 for an output below the longest line; 22 for more repeats than pieces, or where
-- no number is left for one piece more
unfoldable pub step_refusal : Joining → Geometry → ℕ → ℕ → Answer
step_refusal j g room out =
    pick (ltb out line_room) (Err NoRoom)
    (pick (ltb j.pieces j.repeats) (Err BadState)
    (pick (leb largest j.pieces) (Err BadState)
    (start_refusal j.held g room)))

-- a piece taken with a decoder: the record to go on with, and the answer
pub record Took (𝓕 : FieldLaws) (d : Decoder) (full elements : List ℕ) (r : Decoder × Answer) (matrix : List ℕ) : Type 0 where
  pub next : r.0 ≡ record_next 𝓕 d elements full
  pub answer : number_of r.1 ≡ number_next 𝓕 d elements full
  pub left : matrix ≡ buffer_next 𝓕 d elements full

-- the record after a piece, and how long its line is
abbrev pub stepped : Joining → ℕ → Step
stepped j n = record { joining = j; size = n }

-- a piece taken, refused or a repeat, once its answer is known
pub record Counted (j : Joining) (d : Decoder) (answer : Answer) (out : List ℕ) (r : Step) (last : List ℕ) : Type 0 where
  pub result : r ≡ stepped (joined j d (number_of answer)) (length (line_of j d (number_of answer)))
  pub left : last ≡ line_of j d (number_of answer) ++ drop (length (line_of j d (number_of answer))) out

pub record Stepped (𝓕 : FieldLaws) (j : Joining) (g : Geometry) (full elements out : List ℕ) (r : Result Step RLNCError) (matrix text : List ℕ) : Type 0 where
  pub result :
      r ≡ answered (step_refusal j g (length elements) (length out)) (stepped (joined_after 𝓕 j elements g full) (length (line_for 𝓕 j elements g full)))
  pub left : matrix ≡ if_ok (step_refusal j g (length elements) (length out)) (elements_after 𝓕 j elements g full) elements
  pub printed :
      text
      ≡ if_ok (step_refusal j g (length elements) (length out)) (line_for 𝓕 j elements g full ++ drop (length (line_for 𝓕 j elements g full)) out) out

-- the end, with room for so many bytes of data: 21 for an output below the longest line and a line of the data
unfoldable pub end_refusal : ℕ → ℕ → Answer
end_refusal room out = pick (ltb out (line_room + (room * 2 + 1))) (Err NoRoom) (Ok tt)

-- the data recovered to the front of an area, from the decoder that is held
pub record Recovered (held : Option Decoder) (elements area : List ℕ) (r : Result ℕ RLNCError) (kept : List ℕ) : Type 0 where
  pub result : r ≡ answered (end_answer held elements (length area)) (length (data_of held elements))
  pub left : kept ≡ if_ok (end_answer held elements (length area)) (data_of held elements ++ drop (length (data_of held elements)) area) area

-- how many bytes of data there are, if any, and how long the lines are
abbrev pub ended : Option ℕ → ℕ → End
ended found n = record { «data» = found; size = n }

-- the lines of the end; the data stand where recovery writes them
pub record Finished (j : Joining) (elements area out : List ℕ) (r : Result End RLNCError) (kept text : List ℕ) : Type 0 where
  pub result :
      r
      ≡ answered (end_refusal (length area) (length out))
      (ended (if_ok (end_answer j.held elements (length area)) (Some (length (data_of j.held elements))) None) (length (end_lines j elements (length area))))
  pub left :
      kept
      ≡ if_ok (end_refusal (length area) (length out))
      (if_ok (end_answer j.held elements (length area)) (data_of j.held elements ++ drop (length (data_of j.held elements)) area) area) area
  pub printed :
      text
      ≡ if_ok (end_refusal (length area) (length out))
      (end_lines j elements (length area) ++ drop (length (end_lines j elements (length area))) out) out
