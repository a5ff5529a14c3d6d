-- Saving and loading: each one's order of refusals, its result and what it leaves in the lent buffer.
use Rattle.std.specs.Prelude.{◌≡◌, Bool, ◌||◌, not, List, [], ◌∷◌, ◌++◌, ℕ, ◌*◌, ltb, length, drop, Option, Some, None, Result, Ok, Err}
use Rattle.answers.specs.Number.{Answer}
use Rattle.answers.specs.declared.RLNCError.{RLNCError}
use Rattle.answers.specs.declared.RLNCError.TheVariants.{NoRoom, BadState, UnknownKind, CutRecord}
use Rattle.linear.specs.Choice.{pick}
use Rattle.linear.specs.Rows.{all_zero}
use Rattle.block.specs.Refusal.{if_ok, answered}
use Rattle.stream.specs.declared.Geometry.{Geometry}
use Rattle.decoder.specs.declared.Decoder.{Decoder}
use Rattle.decoder.specs.Records.{k_of, l_of, f_of, rows_in, taken_by, bad_state}
use Rattle.decoder.specs.Answers.{values_of}
use Rattle.stored.specs.Forms.{form_size, matrix_size, stored_geometry, size_geometry, form_of, form_matrix, form_decoder}

-- the values: how many bytes were written; the decoder's
unfoldable pub saved_values : Result ℕ RLNCError → List ℕ
saved_values (Ok n) = n ∷ []
saved_values (Err e) = []

unfoldable pub loaded_values : Result Decoder RLNCError → List ℕ
loaded_values (Ok d) = values_of d
loaded_values (Err e) = []

-- "it refuses 22, 24 for an unlisted size, 21": of a decoder in a good state
unfoldable pub size_refusal : Option Geometry → ℕ → Answer
size_refusal None room = Err UnknownKind
size_refusal (Some g) room = pick (ltb room (form_size g)) (Err NoRoom) (Ok tt)

unfoldable pub save_refusal : Decoder → ℕ → ℕ → Answer
save_refusal d matrix room = pick (bad_state d matrix) (Err BadState) (size_refusal (size_geometry (k_of d) (l_of d)) room)

-- where it is not refused, the bytes that are written and how many they are
unfoldable pub saved_form : Option Geometry → Decoder → List ℕ → List ℕ
saved_form None d elements = []
saved_form (Some g) d elements = form_of g d elements

pub record Saving (d : Decoder) (elements out : List ℕ) (r : Result ℕ RLNCError) (last : List ℕ) : Type 0 where
  pub result : r ≡ answered (save_refusal d (length elements) (length out)) (length (saved_form (size_geometry (k_of d) (l_of d)) d elements))
  pub left : last ≡ if_ok (save_refusal d (length elements) (length out)) (saved_form (size_geometry (k_of d) (l_of d)) d elements ++ drop (length (saved_form (size_geometry (k_of d) (l_of d)) d elements)) out) out

-- "22 for bad counts or a nonzero byte behind the held rows": of a record and a matrix, and so of a form
unfoldable pub bad_parts : Decoder → List ℕ → Bool
bad_parts d matrix = (ltb (k_of d) (rows_in d) || ltb (taken_by d) (rows_in d)) || not (all_zero (drop (rows_in d * f_of d) matrix))

unfoldable pub bad_form : Geometry → List ℕ → Bool
bad_form g form = bad_parts (form_decoder g form) (form_matrix g form)

-- "Loading refuses, in this order, 25 if empty, 24 for another kind, 25 if short, 21, 22"
unfoldable pub form_refusal : Option Geometry → List ℕ → ℕ → Answer
form_refusal None form room = Err UnknownKind
form_refusal (Some g) form room =
    pick (ltb (length form) (form_size g)) (Err CutRecord) (pick (ltb room (matrix_size g)) (Err NoRoom) (pick (bad_form g form) (Err BadState) (Ok tt)))

unfoldable pub load_refusal : List ℕ → ℕ → Answer
load_refusal [] room = Err CutRecord
load_refusal (kind ∷ rest) room = form_refusal (stored_geometry kind) (kind ∷ rest) room

-- the geometry of a form that is not refused
unfoldable pub geometry_in : List ℕ → Option Geometry
geometry_in [] = None
geometry_in (kind ∷ rest) = stored_geometry kind

-- the decoder of such a form; with no geometry the refusal is an error, and none is handed out
unfoldable pub load_result : Option Geometry → List ℕ → Answer → Result Decoder RLNCError
load_result None form (Ok z) = Err UnknownKind
load_result None form (Err e) = Err e
load_result (Some g) form refusal = answered refusal (form_decoder g form)

unfoldable pub load_matrix : Option Geometry → List ℕ → List ℕ → List ℕ
load_matrix None form elements = elements
load_matrix (Some g) form elements = form_matrix g form ++ drop (matrix_size g) elements

pub record Loading (form elements : List ℕ) (r : Result Decoder RLNCError) (last : List ℕ) : Type 0 where
  pub result : r ≡ load_result (geometry_in form) form (load_refusal form (length elements))
  pub left : last ≡ if_ok (load_refusal form (length elements)) (load_matrix (geometry_in form) form elements) elements
