-- One record of a stream.
use Rattle.std.specs.Prelude.{◌≡◌, Bool, true, not, List, [], ◌∷◌, ℕ, ◌+◌, eqb, ltb, length, Option, Some, None, Result, Ok, Err}
use Rattle.answers.specs.Number.{Answer}
use Rattle.answers.specs.declared.RLNCError.{RLNCError}
use Rattle.answers.specs.declared.RLNCError.TheVariants.{InvalidPieceLength, InvalidOutputBuffer, UnknownKind, CutRecord, MixedKinds}
use Rattle.linear.specs.Choice.{pick}
use Rattle.block.specs.Refusal.{if_ok}
use Rattle.stream.specs.declared.Geometry.{Geometry}
use Rattle.stream.specs.declared.Record.{Record}
use Rattle.stream.specs.declared.Record.TheVariants.{Piece, End}
use Rattle.stream.specs.Geometries.{kind_of, body_of, geometry_of, same_geometry}

-- the byte that opens a record
abbrev pub record_kind : Record → ℕ
record_kind (Piece g) = kind_of g
record_kind End = 0x01

-- a piece of this geometry may follow those of the geometry so far
unfoldable pub fits_in : Option Geometry → Geometry → Bool
fits_in None g = true
fits_in (Some h) g = same_geometry h g

-- a piece, with so many bytes behind its kind: "a second geometry 26, decided before the body's length"; "a record cut short .. 25"
unfoldable pub piece_record : Option Geometry → ℕ → Option Geometry → Result Record RLNCError
piece_record so_far behind None = Err UnknownKind
piece_record so_far behind (Some g) = pick (not (fits_in so_far g)) (Err MixedKinds) (pick (ltb behind (body_of g)) (Err CutRecord) (Ok (Piece g)))

-- the record of a kind, with so many bytes behind it: "0x01: end, no body"; "An unlisted kind is 24"
unfoldable pub kind_record : Option Geometry → ℕ → ℕ → Result Record RLNCError
kind_record so_far kind behind = pick (eqb kind 0x01) (Ok End) (piece_record so_far behind (geometry_of kind))

-- the record at the front of some bytes; "no end record, 25"
unfoldable pub record_at : Option Geometry → List ℕ → Result Record RLNCError
record_at so_far [] = Err CutRecord
record_at so_far (kind ∷ rest) = kind_record so_far kind (length rest)

-- the value of a record: the kind of a piece, which tells the geometry
unfoldable pub record_values : Result Record RLNCError → List ℕ
record_values (Ok (Piece g)) = kind_of g ∷ []
record_values (Ok End) = []
record_values (Err e) = []

-- writing a piece: 12 for a piece of another length, then 13 for an output of another
unfoldable pub write_refusal : Geometry → ℕ → ℕ → Answer
write_refusal g piece out = pick (not (eqb piece (body_of g))) (Err InvalidPieceLength) (pick (not (eqb out (body_of g + 1))) (Err InvalidOutputBuffer) (Ok tt))

pub record Written (g : Geometry) (piece out : List ℕ) (r : Answer) (last : List ℕ) : Type 0 where
  pub result : r ≡ write_refusal g (length piece) (length out)
  pub left : last ≡ if_ok (write_refusal g (length piece) (length out)) (kind_of g ∷ piece) out
