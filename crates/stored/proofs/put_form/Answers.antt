-- `stored::put_form` meets its contract: the counts of a good record fit their bytes, and its held rows are the first bytes of the matrix.
-- Answers of one line stay each by itself: a lemma is no plainer.
use Rattle.std.proofs.Common.{◌≡◌, ℕ, List, ◌∷◌, ◌++◌, ◌-◌, ◌*◌, ◌/◌, ◌%◌, ◌≤◌, sym, ap, ◌∙◌, length, get_or, take, subst, replicate, false, arith}
use lib.Seq.{length-take-le}
use Rattle.linear.specs.Buffer.{flat}
use Rattle.stream.specs.declared.Geometry.{Geometry}
use Rattle.stream.specs.Geometries.{pieces_of, length_of, body_of}
use Rattle.decoder.specs.declared.Decoder.{Decoder}
use Rattle.decoder.specs.Records.{k_of, l_of, rows_in, taken_by, bad_state, held_rows}
use Rattle.stored.specs.Forms.{matrix_size, form_of}
use Rattle.decoder.proofs.Sound.{holds}
use Rattle.stored.proofs.Numbers.{few_pieces, small}
use Rattle.stored.proofs.Forms.{held_bytes, held_inside, held_room}
use Rattle.stored.proofs.put_form.Goals as goal

-- the held rows, of n bytes each
module _ (g : Geometry) (d : Decoder) (elements : List ℕ) (sizes : (k_of d ≡ pieces_of g) × (l_of d ≡ length_of g))
    (good : bad_state d (length elements) ≡ false) (n : ℕ) (n_is : n ≡ body_of g) where
  in_matrix : rows_in d * n ≤ matrix_size g
  in_matrix =
      let h = holds d _ good in
      subst (λ (m : ℕ). rows_in d * m ≤ matrix_size g) (sym n_is) (held_inside g d elements sizes.0 sizes.1 h.numbers.rows_pieces h.room)

  held_long : length (take (rows_in d * n) elements) ≡ rows_in d * n
  held_long =
      let h = holds d _ good in
      length-take-le (rows_in d * n) elements
      (subst (λ (m : ℕ). rows_in d * m ≤ length elements) (sym n_is) (held_room g d elements sizes.0 sizes.1 h.numbers.rows_pieces h.room))

pub overflow_cast-d : goal.overflow_cast-d
overflow_cast-d c = omega (arith, (holds c.args.d _ c.requires.good).numbers.taken)

pub overflow_cast-rows : goal.overflow_cast-rows
overflow_cast-rows c = omega (arith, (holds c.args.d _ c.requires.good).numbers.rows_pieces, c.requires.of_g.0, few_pieces c.args.g)

pub overflow_mul-rows : goal.overflow_mul-rows
overflow_mul-rows c =
    let a = c.args in
    omega (arith, in_matrix a.g a.d a.elements.now c.requires.of_g c.requires.good c.body_len.result c.body_len.ensures, small a.g)

pub slice_bounds-put_matrix-end : goal.slice_bounds-put_matrix-end
slice_bounds-put_matrix-end c =
    let a = c.args in
    sym (held_long a.g a.d a.elements.now c.requires.of_g c.requires.good c.body_len.result c.body_len.ensures)

pub put_matrix-requires : goal.put_matrix-requires
put_matrix-requires c =
    let a = c.args in
    let long = held_long a.g a.d a.elements.now c.requires.of_g c.requires.good c.body_len.result c.body_len.ensures in
    let fits = in_matrix a.g a.d a.elements.now c.requires.of_g c.requires.good c.body_len.result c.body_len.ensures in
    omega (arith, long, fits, c.split_at_mut-head.ensures.back_len, c.requires.size)

pub returns : goal.returns
unfolding form_of
returns c =
    let a = c.args in
    let (k_is, l_is) = c.requires.of_g in
    let r : ℕ = rows_in a.d in
    let high_is : get_or c.to_be_bytes.result 0 0 ≡ taken_by a.d / 256 =
    ap (λ (l : List ℕ). get_or l 0 0) c.to_be_bytes.ensures ∙ omega (arith, (holds a.d _ c.requires.good).numbers.taken) in
    let low_is : get_or c.to_be_bytes.result 1 0 ≡ taken_by a.d % 256 = ap (λ (l : List ℕ). get_or l 1 0) c.to_be_bytes.ensures in
    let part_long : length c.split_at_mut-head.result.1.now ≡ matrix_size a.g =
    omega (arith, c.split_at_mut-head.ensures.back_len, c.requires.size) in
    let long = held_long a.g a.d a.elements.now c.requires.of_g c.requires.good c.body_len.result c.body_len.ensures in
    let part_is : c.put_matrix.new.part ≡ flat (held_rows a.d a.elements.now) ++ replicate (matrix_size a.g - r * body_of a.g) 0 =
    c.put_matrix.ensures
    ∙ (λ i. take (r * c.body_len.result) a.elements.now ++ replicate (part_long i - long i) 0)
    ∙ (λ i. take (r * c.body_len.ensures i) a.elements.now ++ replicate (matrix_size a.g - r * c.body_len.ensures i) 0)
    ∙ ap (λ (l : List ℕ). l ++ replicate (matrix_size a.g - r * body_of a.g) 0) (sym (held_bytes a.g a.d a.elements.now k_is l_is)) in
    (λ i. c.copy_from_slice.ensures.after i ++ part_is i)
    ∙ (λ i. c.stored_kind.ensures i ∷ r ∷ high_is i ∷ low_is i ∷ (flat (held_rows a.d a.elements.now) ++ replicate (matrix_size a.g - r * body_of a.g) 0))
