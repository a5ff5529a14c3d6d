-- A kind and sizes tell the geometry, and the geometry them. A form is four bytes and then a matrix: the held rows at its front are the first
-- bytes of the matrix, and zeros fill the rest.
-- Assumes nothing.
use mathlib.Core.Path.{◌≡◌, refl, ap, ◌∙◌, subst}
use mathlib.Core.Bool.{Bool, true, false, ◌&&◌}
use mathlib.Core.List.{List, ◌++◌}
use Prim.Native.Nat.{ℕ, ◌+◌, ◌-◌, ◌*◌, ◌≤◌}
use native.Mathlib.Omega.{arith}
use lib.Dec.{eqb}
use lib.ListN.{length, take, replicate, length-append, length-replicate}
use lib.Seq.{length-take-le}
use borrow.Author.Tests.{eqb-true}
use Rattle.std.specs.Prelude.{Some, None}
use Rattle.linear.specs.Choice.{pick}
use Rattle.linear.specs.Buffer.{flat}
use Rattle.linear.proofs.Buffer.{length_part}
use Rattle.linear.proofs.Flat.{flat_front}
use Rattle.linear.proofs.Choice.{and_true}
use Rattle.stream.specs.declared.Geometry.{Geometry}
use Rattle.stream.specs.declared.Geometry.TheVariants.{Of3By2, Of16By240, Of32By480}
use Rattle.stream.specs.Geometries.{pieces_of, length_of, body_of}
use Rattle.decoder.specs.declared.Decoder.{Decoder}
use Rattle.decoder.specs.Records.{k_of, l_of, f_of, rows_in, held_rows}
use Rattle.stored.specs.Forms.{stored_kind, matrix_size, form_size, stored_geometry, size_geometry, form_of, form_matrix}
use Rattle.stored.proofs.Numbers.{inside}

-- ---- kinds and sizes

-- the first of three tests that holds
first_of : (P : Geometry → Type 0) (a b c : Bool) (g : Geometry)
    → pick a (Some Of3By2) (pick b (Some Of16By240) (pick c (Some Of32By480) None)) ≡ Some g
    → (a ≡ true → P Of3By2) → (b ≡ true → P Of16By240) → (c ≡ true → P Of32By480) → P g
first_of P true b c g e p q r = let h : Of3By2 ≡ g = cc in subst P h (p refl)
first_of P false true c g e p q r = let h : Of16By240 ≡ g = cc in subst P h (q refl)
first_of P false false true g e p q r = let h : Of32By480 ≡ g = cc in subst P h (r refl)
first_of P false false false g e p q r = let z : ◌≡◌ {A = ℕ} 0 1 = cc in absurd (omega arith)

pub kind_is : (kind : ℕ) (g : Geometry) → stored_geometry kind ≡ Some g → kind ≡ stored_kind g
unfolding stored_geometry
kind_is kind g e =
    first_of (λ h. kind ≡ stored_kind h) (eqb kind 0x21) (eqb kind 0x22) (eqb kind 0x23) g e
    (λ t. eqb-true kind 0x21 t) (λ t. eqb-true kind 0x22 t) (λ t. eqb-true kind 0x23 t)

pub kind_of_lem : (g : Geometry) → stored_geometry (stored_kind g) ≡ Some g
unfolding stored_geometry
kind_of_lem Of3By2 = refl
kind_of_lem Of16By240 = refl
kind_of_lem Of32By480 = refl

both : (k L a b : ℕ) → (eqb k a && eqb L b) ≡ true → (k ≡ a) × (L ≡ b)
both k L a b t = let (p, q) = and_true (eqb k a) (eqb L b) t in (eqb-true k a p, eqb-true L b q)

pub sizes_are : (k L : ℕ) (g : Geometry) → size_geometry k L ≡ Some g → (k ≡ pieces_of g) × (L ≡ length_of g)
unfolding size_geometry
sizes_are k L g e =
    first_of (λ h. (k ≡ pieces_of h) × (L ≡ length_of h)) (eqb k 3 && eqb L 2) (eqb k 16 && eqb L 240) (eqb k 32 && eqb L 480) g e
    (both k L 3 2) (both k L 16 240) (both k L 32 480)

pub sizes_of : (g : Geometry) → size_geometry (pieces_of g) (length_of g) ≡ Some g
unfolding size_geometry
sizes_of Of3By2 = refl
sizes_of Of16By240 = refl
sizes_of Of32By480 = refl

-- ---- the matrix of a decoder of this geometry

module _ (g : Geometry) (d : Decoder) (elements : List ℕ) (k_is : k_of d ≡ pieces_of g) (l_is : l_of d ≡ length_of g) where
  pub whole_matrix : k_of d * f_of d ≡ matrix_size g
  whole_matrix = λ i. k_is i * (k_is i + l_is i)

  pub held_bytes : flat (held_rows d elements) ≡ take (rows_in d * body_of g) elements
  unfolding held_rows
  held_bytes = flat_front (f_of d) (rows_in d) elements ∙ (λ i. take (rows_in d * (k_is i + l_is i)) elements)

  module _ (few : rows_in d ≤ k_of d) (room : k_of d * f_of d ≤ length elements) where
    pub held_inside : rows_in d * body_of g ≤ matrix_size g
    held_inside = inside g (subst (λ (n : ℕ). rows_in d ≤ n) k_is few)

    pub held_room : rows_in d * body_of g ≤ length elements
    held_room = omega (arith, held_inside, whole_matrix)

    pub length_matrix : length (flat (held_rows d elements) ++ replicate (matrix_size g - rows_in d * body_of g) 0) ≡ matrix_size g
    length_matrix =
        let held : length (flat (held_rows d elements)) ≡ rows_in d * body_of g = ap length held_bytes ∙ length-take-le (rows_in d * body_of g) elements held_room in
        simp (length-append, length-replicate) (omega (arith, held, held_inside))

    pub length_form : length (form_of g d elements) ≡ form_size g
    unfolding form_of
    length_form = omega (arith, length_matrix)

-- the matrix of a form that is long enough
pub matrix_long : (g : Geometry) (form : List ℕ) → form_size g ≤ length form → length (form_matrix g form) ≡ matrix_size g
unfolding form_matrix
matrix_long g form w = length_part 4 (matrix_size g) form w
