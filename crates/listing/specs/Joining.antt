-- Where the joining of a set stands, and what one piece makes of it. The matrix stands beside the record.
use Rattle.std.specs.Prelude.{List, ◌++◌, ℕ, ◌+◌, ◌*◌, eqb, drop, replicate, Option, None, Some}
use Rattle.galois.specs.FieldLaws.{FieldLaws}
use Rattle.linear.specs.Choice.{pick}
use Rattle.stream.specs.declared.Geometry.{Geometry}
use Rattle.stream.specs.Geometries.{pieces_of, length_of, body_of}
use Rattle.decoder.specs.declared.Decoder.{Decoder}
use Rattle.decoder.specs.Records.{rows_in, taken_by}
use Rattle.decoder.specs.Entries.{decoder_of}
use Rattle.decoder.specs.Calls.{number_next, record_next, buffer_next}
use Rattle.listing.specs.declared.join.Joining.{Joining}
use Rattle.listing.specs.Lines.{piece_line}

-- before the first piece
abbrev pub nothing : Joining
nothing = record { held = None; pieces = 0; repeats = 0 }

-- the first piece makes the decoder of its geometry
unfoldable pub decoder_for : Geometry → Option Decoder → Decoder
decoder_for g None = decoder_of (pieces_of g) (length_of g) 0 0
decoder_for g (Some d) = d

unfoldable pub matrix_for : Geometry → Option Decoder → List ℕ → List ℕ
matrix_for g None elements = replicate (pieces_of g * body_of g) 0 ++ drop (pieces_of g * body_of g) elements
matrix_for g (Some d) elements = elements

-- a piece got this answer, and the decoder after it is d. "Repeats is the number of answers 8"
unfoldable pub joined : Joining → Decoder → ℕ → Joining
joined j d answer = record { held = Some d; pieces = j.pieces + 1; repeats = j.repeats + pick (eqb answer 8) 1 0 }

-- its line: "ordinal, answer, rows and taken after it"
unfoldable pub line_of : Joining → Decoder → ℕ → List ℕ
line_of j d answer = piece_line (j.pieces + 1) answer (rows_in d) (taken_by d)

module _ (𝓕 : FieldLaws) (j : Joining) (elements : List ℕ) (g : Geometry) (full : List ℕ) where
  unfoldable pub answer_to : ℕ
  answer_to = number_next 𝓕 (decoder_for g j.held) (matrix_for g j.held elements) full

  unfoldable pub decoder_after : Decoder
  decoder_after = record_next 𝓕 (decoder_for g j.held) (matrix_for g j.held elements) full

  unfoldable pub elements_after : List ℕ
  elements_after = buffer_next 𝓕 (decoder_for g j.held) (matrix_for g j.held elements) full

  unfoldable pub joined_after : Joining
  joined_after = joined j decoder_after answer_to

  unfoldable pub line_for : List ℕ
  line_for = line_of j decoder_after answer_to
