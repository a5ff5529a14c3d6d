-- The piece stream: a geometry crosses as the kind of its pieces.
use Rattle.std.specs.Prelude.{◌≡◌, List, ◌∷◌, ℕ, eqb, length, Option, None, Some, Result, Ok, Err}
use Rattle.answers.specs.Number.{Answer, number_of, code_of}
use Rattle.answers.specs.declared.RLNCError.{RLNCError}
use Rattle.answers.specs.declared.RLNCError.TheVariants.{BadState, UnknownKind}
use Rattle.linear.specs.Choice.{pick}
use Rattle.block.specs.Refusal.{if_ok}
use Rattle.stream.specs.declared.Geometry.{Geometry}
use Rattle.stream.specs.declared.Record.{Record}
use Rattle.stream.specs.Geometries.{kind_of, pieces_of, length_of, geometry_of}
use Rattle.stream.specs.Records.{record_kind, write_refusal}

-- what has been seen so far crosses as the kind of the pieces before, 0 where there were none; 22 where no pieces have that kind
unfoldable pub seen_before : Option Geometry → Result (Option Geometry) RLNCError
seen_before None = Err BadState
seen_before (Some g) = Ok (Some g)

unfoldable pub earlier_of : ℕ → Result (Option Geometry) RLNCError
earlier_of kind = pick (eqb kind 0) (Ok None) (seen_before (geometry_of kind))

-- the record that is read after it
unfoldable pub read_by : (Option Geometry → Result Record RLNCError) → Result (Option Geometry) RLNCError → Result Record RLNCError
read_by read (Ok s) = read s
read_by read (Err e) = Err e

-- a record crosses as the byte that opens it
unfoldable pub kind_or : ℕ → Result Record RLNCError → ℕ
kind_or before (Ok m) = record_kind m
kind_or before (Err e) = before

pub record RecordGiven (m : Result Record RLNCError) (before r after : ℕ) : Type 0 where
  pub number : r ≡ number_of m
  pub stored : after ≡ kind_or before m

-- a piece of an unlisted kind is 24, before 12 and 13
unfoldable pub kind_refusal : Option Geometry → ℕ → ℕ → Answer
kind_refusal None piece out = Err UnknownKind
kind_refusal (Some g) piece out = write_refusal g piece out

unfoldable pub record_of : Option Geometry → List ℕ → List ℕ
record_of None piece = piece
record_of (Some g) piece = kind_of g ∷ piece

pub record PieceWritten (l : Option Geometry) (piece out : List ℕ) (r : ℕ) (last : List ℕ) : Type 0 where
  pub number : r ≡ number_of (kind_refusal l (length piece) (length out))
  pub left : last ≡ if_ok (kind_refusal l (length piece) (length out)) (record_of l piece) out

-- the sizes of a kind of piece
unfoldable pub sizes_number : Option Geometry → ℕ
sizes_number None = code_of UnknownKind
sizes_number (Some g) = 0

unfoldable pub size_or : (Geometry → ℕ) → ℕ → Option Geometry → ℕ
size_or size before None = before
size_or size before (Some g) = size g

pub record SizesGiven (l : Option Geometry) (k L r k' L' : ℕ) : Type 0 where
  pub number : r ≡ sizes_number l
  pub pieces_stored : k' ≡ size_or pieces_of k l
  pub length_stored : L' ≡ size_or length_of L l
