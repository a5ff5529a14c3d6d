-- What `setjoin` prints for a whole input: one definition, from bytes to text.
use Rattle.std.specs.Prelude.{List, [], ◌++◌, ℕ, length, take, replicate, Option, None, Some, Err}
use Rattle.answers.specs.Number.{Answer, number_of, code_of}
use Rattle.answers.specs.declared.RLNCError.TheVariants.{NotAllPiecesReceivedYet}
use Rattle.galois.specs.FieldLaws.{FieldLaws}
use Rattle.block.specs.Refusal.{if_ok}
use Rattle.block.specs.Padding.{marker}
use Rattle.block.specs.Reading.{reading, data_length}
use Rattle.stream.specs.Streams.{Stream, piece, end, stop, stream_of}
use Rattle.decoder.specs.declared.Decoder.{Decoder}
use Rattle.decoder.specs.Entries.{block_in, recover_refusal}
use Rattle.listing.specs.declared.join.Joining.{Joining}
use Rattle.listing.specs.Lines.{header_line, end_line, stop_line, data_line}
use Rattle.listing.specs.Joining.{nothing, joined_after, elements_after, line_for}

-- the end: recovery's answer, with room for so many bytes. "With no piece the last line is `end 10 0 0`"
unfoldable pub end_answer : Option Decoder → List ℕ → ℕ → Answer
end_answer None elements room = Err NotAllPiecesReceivedYet
end_answer (Some d) elements room = recover_refusal marker d elements room

unfoldable pub data_of : Option Decoder → List ℕ → List ℕ
data_of None elements = []
data_of (Some d) elements = take (data_length (reading marker (block_in d elements))) (block_in d elements)

-- "`end`, recovery's answer, length (0 if refused), repeats; then the data in lower-case hex if the answer is 0"
unfoldable pub end_lines : Joining → List ℕ → ℕ → List ℕ
end_lines j elements room =
    if_ok (end_answer j.held elements room)
    (end_line 0 (length (data_of j.held elements)) j.repeats ++ data_line (data_of j.held elements))
    (end_line (number_of (end_answer j.held elements room)) 0 j.repeats)

-- the largest geometry asks for a matrix of 16,384 bytes, and for room for a block of 15,360
abbrev pub matrix_length : ℕ
matrix_length = 16384

abbrev pub block_room : ℕ
block_room = 15360

module _ (𝓕 : FieldLaws) where
  -- the lines from there on
  unfoldable pub lines_from : Joining → List ℕ → Stream → List ℕ
  lines_from j elements (piece g full later) = line_for 𝓕 j elements g full ++ lines_from (joined_after 𝓕 j elements g full) (elements_after 𝓕 j elements g full) later
  lines_from j elements end = end_lines j elements block_room
  lines_from j elements (stop e at) = stop_line (code_of e) at

  -- "Header `n answer rows taken`; then a line a piece"
  unfoldable pub listing_of : List ℕ → List ℕ
  listing_of input = header_line ++ lines_from nothing (replicate matrix_length 0) (stream_of input)
