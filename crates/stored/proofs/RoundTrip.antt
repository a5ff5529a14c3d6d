-- A form holds the record's counts and its held rows, and its zeros are what loading asks for. So what is saved loads back, and what loads saves
-- back.
-- Assumes nothing.
use mathlib.Core.Path.{◌≡◌, refl, sym, ap, ◌∙◌, subst}
use mathlib.Core.Bool.{true, false, not, ◌&&◌, ◌||◌, true≢false}
use mathlib.Core.List.{List, [], ◌∷◌, ◌++◌, append_assoc}
use Prim.Native.Nat.{ℕ, zero, suc, ◌+◌, ◌-◌, ◌*◌, ◌/◌, ◌%◌, ◌≤◌}
use native.Mathlib.Nat.{mul_comm, mul-sub, mul-le-mul_right}
use native.Mathlib.Omega.{arith}
use lib.Dec.{ltb}
use lib.ListN.{length, get_or, take, drop, replicate, length-append, length-drop, take-append-drop}
use lib.Seq.{take_at, drop_at, take-add, take-append-le, length-take-le}
use borrow.Author.Tests.{le-ltb, ltb-false, le-leb, not-false}
use Rattle.std.specs.Prelude.{Some, Result, Ok}
use Rattle.answers.specs.declared.RLNCError.{RLNCError}
use Rattle.linear.specs.All.{Bytes}
use Rattle.linear.specs.Rows.{all_zero}
use Rattle.linear.specs.Buffer.{rows_of, flat, holding}
use Rattle.linear.proofs.All.{bytes_at}
use Rattle.linear.proofs.Buffer.{sizes_of as widths_of}
use Rattle.linear.proofs.Flat.{rows_flat}
use Rattle.block.specs.Sizes.{over_limit, sized}
use Rattle.block.proofs.LastMarker.{zero_replicate}
use Rattle.linear.proofs.Choice.{or_false}
use Rattle.stream.specs.declared.Geometry.{Geometry}
use Rattle.stream.specs.declared.Geometry.TheVariants.{Of3By2, Of16By240, Of32By480}
use Rattle.stream.specs.Geometries.{pieces_of, length_of, body_of}
use Rattle.decoder.specs.declared.Decoder.{Decoder}
use Rattle.decoder.specs.Records.{k_of, l_of, f_of, rows_in, taken_by, sound, bad_state, held_rows}
use Rattle.decoder.specs.Entries.{decoder_of}
use Rattle.stored.specs.Forms.{stored_kind, matrix_size, form_size, stored_geometry, form_of, form_rows, form_taken, form_matrix, form_decoder}
use Rattle.stored.specs.Entries.{Saving, bad_form, bad_parts, Loading}
use Rattle.decoder.proofs.Counters.{held_count}
use Rattle.decoder.proofs.Sound.{Holds, holds}
use Rattle.stored.proofs.Numbers.{inside}
use Rattle.stored.proofs.Forms.{kind_is, kind_of_lem, sizes_are, sizes_of, whole_matrix, held_bytes, held_room, length_matrix, length_form, matrix_long}
use Rattle.stored.proofs.Entries.{saves, loads}
use Rattle.stored.proofs.OneResult.{saved_once, loaded_once}
use Rattle.stored.proofs.Outcomes.{WasSaved, was_saved, WasLoaded, was_loaded}

zero_zeros : (xs : List ℕ) → all_zero xs ≡ true → xs ≡ replicate (length xs) 0
unfolding all_zero
zero_zeros [] e = refl
zero_zeros (zero ∷ xs) e = ap (λ (l : List ℕ). 0 ∷ l) (zero_zeros xs e)
zero_zeros (suc x ∷ xs) e = absurd (true≢false (sym e))

-- bad counts and bytes behind the held rows, or not
fine_form : (g : Geometry) (form : List ℕ) → form_rows form ≤ pieces_of g → form_rows form ≤ form_taken form
    → all_zero (drop (form_rows form * body_of g) (form_matrix g form)) ≡ true → bad_form g form ≡ false
unfolding bad_form bad_parts form_decoder
fine_form g form few fewer zeros = λ i. le-ltb (pieces_of g) (form_rows form) few i || le-ltb (form_taken form) (form_rows form) fewer i || not (zeros i)

form_facts : (g : Geometry) (form : List ℕ) → bad_form g form ≡ false
    → (form_rows form ≤ pieces_of g) × (form_rows form ≤ form_taken form) × (all_zero (drop (form_rows form * body_of g) (form_matrix g form)) ≡ true)
unfolding bad_form bad_parts form_decoder
form_facts g form e =
    let (counts, zeros) = or_false (ltb (pieces_of g) (form_rows form) || ltb (form_taken form) (form_rows form)) _ e in
    let (few, fewer) = or_false (ltb (pieces_of g) (form_rows form)) (ltb (form_taken form) (form_rows form)) counts in
    (ltb-false (pieces_of g) (form_rows form) few, ltb-false (form_taken form) (form_rows form) fewer, not-false _ zeros)

-- ---- what is saved

module _ (g : Geometry) (d : Decoder) (elements behind : List ℕ) (k_is : k_of d ≡ pieces_of g) (l_is : l_of d ≡ length_of g)
    (h : Holds d (length elements)) where
  abbrev form : List ℕ
  form = form_of g d elements ++ behind

  abbrev rest : List ℕ
  rest = replicate (matrix_size g - rows_in d * body_of g) 0

  kind : stored_geometry (get_or form 0 0) ≡ Some g
  unfolding form_of
  kind = kind_of_lem g

  matrix_is : form_matrix g form ≡ flat (held_rows d elements) ++ rest
  unfolding form_matrix form_of
  matrix_is = take_at (flat (held_rows d elements) ++ rest) behind (matrix_size g) (length_matrix g d elements k_is l_is h.numbers.rows_pieces h.room)

  taken_is : form_taken form ≡ taken_by d
  unfolding form_taken form_of
  taken_is = omega arith

  decoder_is : form_decoder g form ≡ d
  unfolding form_decoder form_rows form_of
  decoder_is = λ i. decoder_of (sym k_is i) (sym l_is i) (rows_in d) (taken_is i)

  held_long : length (flat (held_rows d elements)) ≡ rows_in d * body_of g
  held_long =
      ap length (held_bytes g d elements k_is l_is) ∙ length-take-le (rows_in d * body_of g) elements (held_room g d elements k_is l_is h.numbers.rows_pieces h.room)

  fine : bad_form g form ≡ false
  unfolding form_rows form_of
  fine =
      fine_form g form (subst (λ (k : ℕ). rows_in d ≤ k) k_is h.numbers.rows_pieces) (subst (λ (k : ℕ). rows_in d ≤ k) (sym taken_is) h.numbers.rows_taken)
      (ap (λ (l : List ℕ). all_zero (drop (rows_in d * body_of g) l)) matrix_is
      ∙ ap all_zero (drop_at (flat (held_rows d elements)) rest (rows_in d * body_of g) held_long) ∙ zero_replicate (matrix_size g - rows_in d * body_of g))

  whole : form_size g ≤ length form
  whole = simp length-append (omega (arith, length_form g d elements k_is l_is h.numbers.rows_pieces h.room))

  -- the matrix of the form, at the front of any buffer
  filled : (matrix : List ℕ) → form_matrix g form ++ drop (matrix_size g) matrix ≡ holding (k_of d) (f_of d) (held_rows d elements) matrix
  filled matrix =
      let size : (k_of d - length (held_rows d elements)) * f_of d ≡ matrix_size g - rows_in d * body_of g =
      ap (λ (c : ℕ). (k_of d - c) * f_of d) (held_count d elements) ∙ mul_comm (k_of d - rows_in d) (f_of d) ∙ mul-sub (f_of d) (k_of d) (rows_in d)
      ∙ (λ i. mul_comm (f_of d) (k_of d) i - mul_comm (f_of d) (rows_in d) i) ∙ (λ i. k_is i * (k_is i + l_is i) - rows_in d * (k_is i + l_is i)) in
      ap (λ (l : List ℕ). l ++ drop (matrix_size g) matrix) matrix_is ∙ append_assoc (flat (held_rows d elements)) rest (drop (matrix_size g) matrix)
      ∙ (λ i. flat (held_rows d elements) ++ (replicate (sym size i) 0 ++ drop (sym (whole_matrix g d elements k_is l_is) i) matrix))

  front : (matrix : List ℕ) → take (k_of d * f_of d) (holding (k_of d) (f_of d) (held_rows d elements) matrix) ≡ form_matrix g form
  front matrix =
      (λ i. take (whole_matrix g d elements k_is l_is i) (sym (filled matrix) i))
      ∙ take_at (form_matrix g form) (drop (matrix_size g) matrix) (matrix_size g)
      (ap length matrix_is ∙ length_matrix g d elements k_is l_is h.numbers.rows_pieces h.room)

  held_again : (matrix : List ℕ) → held_rows d (holding (k_of d) (f_of d) (held_rows d elements) matrix) ≡ held_rows d elements
  unfolding held_rows
  held_again matrix =
      ap (λ (c : ℕ). rows_of (f_of d) c (holding (k_of d) (f_of d) (held_rows d elements) matrix)) (sym (held_count d elements))
      ∙ rows_flat (f_of d) (held_rows d elements) _ (widths_of (f_of d) (rows_in d) elements (omega (arith, h.room, mul-le-mul_right (f_of d) h.numbers.rows_pieces)))

module _ {d : Decoder} {elements out out' : List ℕ} {n : ℕ} (s : Saving d elements out (Ok n) out') where
  it : WasSaved d elements out n out'
  it = was_saved d elements out n out' s

  -- what is saved loads back, whatever stands behind it: the same record, and a matrix of the held rows and then zeros
  pub loads_back : (behind matrix matrix' : List ℕ) (r : Result Decoder RLNCError) → k_of d * f_of d ≤ length matrix → Loading (take n out' ++ behind) matrix r matrix'
      → (r ≡ Ok d) × (matrix' ≡ holding (k_of d) (f_of d) (held_rows d elements) matrix)
  loads_back behind matrix matrix' r room l =
      let g : Geometry = it.geometry in
      let (k_is, l_is) = sizes_are (k_of d) (l_of d) g it.sizes in
      let h = holds d (length elements) it.fine in
      let written : take n out' ≡ form_of g d elements =
      (λ i. take (it.count i) (it.left i))
      ∙ take_at (form_of g d elements) (drop (form_size g) out) (form_size g) (length_form g d elements k_is l_is h.numbers.rows_pieces h.room) in
      let l' : Loading (form_of g d elements ++ behind) matrix r matrix' = subst (λ (f : List ℕ). Loading (f ++ behind) matrix r matrix') written l in
      let w : form_size g ≤ length (form_of g d elements ++ behind) = whole g d elements behind k_is l_is h in
      let fits : matrix_size g ≤ length matrix = subst (λ (m : ℕ). m ≤ length matrix) (whole_matrix g d elements k_is l_is) room in
      let (e, m) =
      loaded_once l'
      (loads matrix (form_of g d elements ++ behind) (omega (arith, w)) g (kind g d elements behind k_is l_is h) w fits
      (fine g d elements behind k_is l_is h) refl) in
      (e ∙ ap Ok (decoder_is g d elements behind k_is l_is h), m ∙ filled g d elements behind k_is l_is h matrix)

  -- so the loaded decoder goes on where the saved one was: the same held rows, and as much of the matrix as a decoder reads is as if the dropped
  -- rows' area of the saved one had been cleared
  pub same_rows : (matrix : List ℕ) → held_rows d (holding (k_of d) (f_of d) (held_rows d elements) matrix) ≡ held_rows d elements
  same_rows matrix =
      let (k_is, l_is) = sizes_are (k_of d) (l_of d) it.geometry it.sizes in
      let h = holds d (length elements) it.fine in
      held_again it.geometry d elements [] k_is l_is h matrix

  pub same_front : (matrix : List ℕ)
      → take (k_of d * f_of d) (holding (k_of d) (f_of d) (held_rows d elements) matrix) ≡ take (k_of d * f_of d) (holding (k_of d) (f_of d) (held_rows d elements) elements)
  same_front matrix =
      let (k_is, l_is) = sizes_are (k_of d) (l_of d) it.geometry it.sizes in
      let h = holds d (length elements) it.fine in
      front it.geometry d elements [] k_is l_is h matrix ∙ sym (front it.geometry d elements [] k_is l_is h elements)

-- ---- what loads

listed_sizes : (g : Geometry) → sized (pieces_of g) (length_of g) ≡ true
unfolding sized over_limit
listed_sizes Of3By2 = refl
listed_sizes Of16By240 = refl
listed_sizes Of32By480 = refl

first_four : (form : List ℕ) → 4 ≤ length form → take 4 form ≡ get_or form 0 0 ∷ get_or form 1 0 ∷ get_or form 2 0 ∷ get_or form 3 0 ∷ []
first_four [] h = absurd (omega arith)
first_four (a ∷ []) h = absurd (omega arith)
first_four (a ∷ b ∷ []) h = absurd (omega arith)
first_four (a ∷ b ∷ c ∷ []) h = absurd (omega arith)
first_four (a ∷ b ∷ c ∷ d ∷ _) h = refl

module _ (g : Geometry) (form elements : List ℕ) (bytes : Bytes form) (w : form_size g ≤ length form) (bad : bad_form g form ≡ false) where
  abbrev rows : ℕ
  rows = form_rows form * body_of g

  abbrev d : Decoder
  d = decoder_of (pieces_of g) (length_of g) (form_rows form) (form_taken form)

  abbrev matrix : List ℕ
  matrix = form_matrix g form ++ drop (matrix_size g) elements

  long : length (form_matrix g form) ≡ matrix_size g
  long = matrix_long g form w

  most : form_taken form ≤ 65535
  unfolding form_taken
  most = omega (arith, bytes_at form bytes 2, bytes_at form bytes 3)

  high : form_taken form / 256 ≡ get_or form 2 0
  unfolding form_taken
  high = omega (arith, bytes_at form bytes 3)

  low : form_taken form % 256 ≡ get_or form 3 0
  unfolding form_taken
  low = omega (arith, bytes_at form bytes 3)

  good_record : sound d ≡ true
  unfolding sound
  good_record =
      let (few, fewer, z) = form_facts g form bad in
      λ i. listed_sizes g i && (le-leb (form_rows form) (pieces_of g) few i && (le-leb (form_rows form) (form_taken form) fewer i && le-leb (form_taken form) 65535 most i))

  good_state : bad_state d (length matrix) ≡ false
  unfolding bad_state
  good_state =
      let room : matrix_size g ≤ length matrix = simp length-append (omega (arith, long)) in
      λ i. not (good_record i) || le-ltb (length matrix) (matrix_size g) room i

  matrix_again : flat (held_rows d matrix) ++ replicate (matrix_size g - rows) 0 ≡ form_matrix g form
  matrix_again =
      let (few, fewer, z) = form_facts g form bad in
      let inner : rows ≤ length (form_matrix g form) = omega (arith, long, inside g few) in
      let held : flat (held_rows d matrix) ≡ take rows (form_matrix g form) =
      held_bytes g d matrix refl refl ∙ take-append-le rows (form_matrix g form) (drop (matrix_size g) elements) inner in
      let zeros : replicate (matrix_size g - rows) 0 ≡ drop rows (form_matrix g form) =
      ap (λ (n : ℕ). replicate n 0) (sym (length-drop rows (form_matrix g form) ∙ ap (λ (n : ℕ). n - rows) long))
      ∙ sym (zero_zeros (drop rows (form_matrix g form)) z) in
      (λ i. held i ++ zeros i) ∙ take-append-drop rows (form_matrix g form)

  form_again : get_or form 0 0 ≡ stored_kind g → form_of g d matrix ≡ take (form_size g) form
  unfolding form_of form_matrix form_rows
  form_again k =
      (λ i. sym k i ∷ get_or form 1 0 ∷ high i ∷ low i ∷ matrix_again i)
      ∙ ap (λ (l : List ℕ). l ++ take (matrix_size g) (drop 4 form)) (sym (first_four form (omega arith))) ∙ sym (take-add 4 (matrix_size g) form)

-- what loads saves back to the same bytes: the form, up to its size
pub saves_back : {form elements matrix : List ℕ} {d : Decoder} → Bytes form → Loading form elements (Ok d) matrix
    → (out out' : List ℕ) (r : Result ℕ RLNCError) → 4 + k_of d * f_of d ≤ length out → Saving d matrix out r out'
    → (r ≡ Ok (4 + k_of d * f_of d)) × (out' ≡ take (4 + k_of d * f_of d) form ++ drop (4 + k_of d * f_of d) out)
unfolding form_decoder
saves_back {form} {elements} {matrix} {d} bytes l out out' r =
    let it : WasLoaded form elements d matrix = was_loaded form elements d matrix l in
    let g : Geometry = it.geometry in
    subst (λ (x : Decoder). 4 + k_of x * f_of x ≤ length out → Saving x matrix out r out'
    → (r ≡ Ok (4 + k_of x * f_of x)) × (out' ≡ take (4 + k_of x * f_of x) form ++ drop (4 + k_of x * f_of x) out))
    (sym it.is)
    (λ room s.
    let m : List ℕ = form_matrix g form ++ drop (matrix_size g) elements in
    let s' : Saving (form_decoder g form) m out r out' = subst (λ (x : List ℕ). Saving (form_decoder g form) x out r out') it.left s in
    let (e, left) =
    saved_once s' (saves (form_decoder g form) m out (good_state g form elements bytes it.whole it.fine) g (sizes_of g) room refl) in
    (e, left ∙ ap (λ (f : List ℕ). f ++ drop (form_size g) out) (form_again g form elements bytes it.whole it.fine (kind_is (get_or form 0 0) g it.kind))))
