-- The geometries: "0x11 is k = 3, L = 2 (5 bytes); 0x12 is 16, 240 (256); 0x13 is 32, 480 (512)."
use Rattle.std.specs.Prelude.{◌≡◌, Bool, ℕ, ◌+◌, eqb, Option, Some, None, Result, ok_or}
use Rattle.answers.specs.declared.RLNCError.{RLNCError}
use Rattle.answers.specs.declared.RLNCError.TheVariants.{UnknownKind}
use Rattle.linear.specs.Choice.{pick}
use Rattle.stream.specs.declared.Geometry.{Geometry}
use Rattle.stream.specs.declared.Geometry.TheVariants.{Of3By2, Of16By240, Of32By480}

abbrev pub kind_of : Geometry → ℕ
kind_of Of3By2 = 0x11
kind_of Of16By240 = 0x12
kind_of Of32By480 = 0x13

abbrev pub pieces_of : Geometry → ℕ
pieces_of Of3By2 = 3
pieces_of Of16By240 = 16
pieces_of Of32By480 = 32

abbrev pub length_of : Geometry → ℕ
length_of Of3By2 = 2
length_of Of16By240 = 240
length_of Of32By480 = 480

-- the bytes of a whole piece
abbrev pub body_of : Geometry → ℕ
body_of g = pieces_of g + length_of g

-- the geometry of a kind of piece
unfoldable pub geometry_of : ℕ → Option Geometry
geometry_of kind =
    pick (eqb kind 0x11) (Some Of3By2) (pick (eqb kind 0x12) (Some Of16By240) (pick (eqb kind 0x13) (Some Of32By480) None))

-- reading a kind of piece: its geometry, or 24 where it is not listed
abbrev pub Names : ℕ → Result Geometry RLNCError → Type 0
Names kind r = r ≡ ok_or (geometry_of kind) UnknownKind

-- whether two are the same
unfoldable pub same_geometry : Geometry → Geometry → Bool
same_geometry g h = eqb (kind_of g) (kind_of h)
