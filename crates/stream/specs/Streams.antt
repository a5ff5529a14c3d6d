-- A whole stream: its pieces, and how it ends.
use Rattle.std.specs.Prelude.{List, [], ◌∷◌, ◌++◌, ℕ, zero, suc, ◌+◌, length, take, drop, Option, Some, None, Ok, Err}
use Rattle.answers.specs.declared.RLNCError.{RLNCError}
use Rattle.answers.specs.declared.RLNCError.TheVariants.{CutRecord}
use Rattle.stream.specs.declared.Geometry.{Geometry}
use Rattle.stream.specs.declared.Record.TheVariants.{Piece, End}
use Rattle.stream.specs.Geometries.{kind_of, body_of}
use Rattle.stream.specs.Records.{record_at}

-- the largest number of a machine, for a count of pieces and for an offset
abbrev pub largest : ℕ
largest = 18446744073709551615

-- the pieces in their order, all of one geometry; then the end record, or a refusal with "the record's byte offset (the input's length if the
-- end record is missing)". "Nothing behind the end record is read."
pub data Stream : Type 0 where
  piece : Geometry → List ℕ → Stream → Stream
  end : Stream
  stop : RLNCError → ℕ → Stream

-- one record after the other from an offset on; `fuel` is more than there are records
unfoldable pub stream_from : ℕ → Option Geometry → ℕ → List ℕ → Stream
stream_from zero so_far at bytes = stop CutRecord at
stream_from (suc fuel) so_far at bytes =
    elim (record_at so_far bytes) [
      | Ok (Piece g) ↦ piece g (take (body_of g) (drop 1 bytes)) (stream_from fuel (Some g) (at + 1 + body_of g) (drop (1 + body_of g) bytes))
      | Ok End ↦ end
      | Err e ↦ stop e at
    ]

unfoldable pub stream_of : List ℕ → Stream
stream_of bytes = stream_from (suc (length bytes)) None 0 bytes

-- what is left of a stream from an offset on
unfoldable pub stream_at : Option Geometry → ℕ → List ℕ → Stream
stream_at so_far at bytes = stream_from (suc (length (drop at bytes))) so_far at (drop at bytes)

-- the records of some pieces, as `write` leaves each
unfoldable pub records_of : Geometry → List (List ℕ) → List ℕ
records_of g [] = []
records_of g (p ∷ ps) = kind_of g ∷ (p ++ records_of g ps)

-- the stream that is these pieces alone
unfoldable pub of_pieces : Geometry → List (List ℕ) → Stream
of_pieces g [] = end
of_pieces g (p ∷ ps) = piece g p (of_pieces g ps)
