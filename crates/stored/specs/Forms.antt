-- "Stored form 0x21, 0x22, 0x23 for these geometries: rows (1 byte), taken (2, high byte first), k·F matrix bytes; bodies of 18, 4,099 and 16,387."
use Rattle.std.specs.Prelude.{◌&&◌, List, ◌∷◌, ◌++◌, ℕ, ◌+◌, ◌-◌, ◌*◌, ◌/◌, ◌%◌, eqb, get_or, take, drop, replicate, Option, Some, None}
use Rattle.linear.specs.Choice.{pick}
use Rattle.linear.specs.Buffer.{flat}
use Rattle.stream.specs.declared.Geometry.{Geometry}
use Rattle.stream.specs.declared.Geometry.TheVariants.{Of3By2, Of16By240, Of32By480}
use Rattle.stream.specs.Geometries.{pieces_of, length_of, body_of}
use Rattle.decoder.specs.declared.Decoder.{Decoder}
use Rattle.decoder.specs.Records.{rows_in, taken_by, held_rows}
use Rattle.decoder.specs.Entries.{decoder_of}

abbrev pub stored_kind : Geometry → ℕ
stored_kind Of3By2 = 0x21
stored_kind Of16By240 = 0x22
stored_kind Of32By480 = 0x23

-- the bytes of a matrix, and those of the whole form, its kind included
abbrev pub matrix_size : Geometry → ℕ
matrix_size g = pieces_of g * body_of g

abbrev pub form_size : Geometry → ℕ
form_size g = 4 + matrix_size g

-- the geometry of a stored kind
unfoldable pub stored_geometry : ℕ → Option Geometry
stored_geometry kind =
    pick (eqb kind 0x21) (Some Of3By2) (pick (eqb kind 0x22) (Some Of16By240) (pick (eqb kind 0x23) (Some Of32By480) None))

-- the geometry of a decoder's sizes
unfoldable pub size_geometry : ℕ → ℕ → Option Geometry
size_geometry k L =
    pick (eqb k 3 && eqb L 2) (Some Of3By2) (pick (eqb k 16 && eqb L 240) (Some Of16By240) (pick (eqb k 32 && eqb L 480) (Some Of32By480) None))

-- "Saving writes zeros behind the held rows"
unfoldable pub form_of : Geometry → Decoder → List ℕ → List ℕ
form_of g d elements =
    stored_kind g ∷ rows_in d ∷ taken_by d / 256 ∷ taken_by d % 256 ∷ (flat (held_rows d elements) ++ replicate (matrix_size g - rows_in d * body_of g) 0)

-- the parts of a form that is long enough: rows, taken and the matrix
unfoldable pub form_rows : List ℕ → ℕ
form_rows form = get_or form 1 0

unfoldable pub form_taken : List ℕ → ℕ
form_taken form = get_or form 2 0 * 256 + get_or form 3 0

unfoldable pub form_matrix : Geometry → List ℕ → List ℕ
form_matrix g form = take (matrix_size g) (drop 4 form)

unfoldable pub form_decoder : Geometry → List ℕ → Decoder
form_decoder g form = decoder_of (pieces_of g) (length_of g) (form_rows form) (form_taken form)
