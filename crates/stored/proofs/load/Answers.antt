-- `stored::load` meets its contract: the tests are the definition's, in its order, and nothing is written before the last of them.
use Rattle.std.proofs.Common.{◌≡◌, List, ◌++◌, ◌*◌, ◌≤◌, ◌<◌, ℕ, sym, ap, ◌∙◌, length, drop, subst, arith, Ok, Result}
use Rattle.std.proofs.lemmas.Result.{err_from_is_err_and}
use Rattle.answers.specs.declared.RLNCError.{RLNCError}
use Rattle.stream.specs.declared.Geometry.{Geometry}
use Rattle.decoder.specs.declared.Decoder.{Decoder}
use Rattle.decoder.specs.Records.{k_of, f_of}
use Rattle.stored.specs.Forms.{matrix_size, form_size, form_matrix, form_decoder}
use Rattle.stored.specs.Entries.{bad_form, bad_parts, Loading}
use Rattle.stored.proofs.Forms.{matrix_long}
use Rattle.stored.proofs.Entries.{handed_on, loads_empty, loads_unlisted, loads_short, loads_no_room, loads_bad, loads}
use Rattle.stored.proofs.load.Goals as goal

-- the parts of a form that is long enough
module _ (g : Geometry) (form : List ℕ) {d : Decoder} {matrix : List ℕ} (w : form_size g ≤ length form)
    (d_is : d ≡ form_decoder g form) (matrix_is : matrix ≡ form_matrix g form) where
  long : length matrix ≡ matrix_size g
  long = ap length matrix_is ∙ matrix_long g form w

  whole : length matrix ≡ k_of d * f_of d
  unfolding form_decoder
  whole = long ∙ sym (ap (λ (d : Decoder). k_of d * f_of d) d_is)

  same_bad : bad_parts d matrix ≡ bad_form g form
  unfolding bad_form
  same_bad = λ i. bad_parts (d_is i) (matrix_is i)

pub returns-in_default : goal.returns-in_default
returns-in_default c = loads_empty _ _ (omega (arith, c.in_default.len_below))

pub returns-in_err-g : goal.returns-in_err-g
returns-in_err-g c =
    let e = handed_on c.in_err-g.ensures.value c.in_err-g.ensures.ok_part (err_from_is_err_and _ c.from_residual.ensures.1) in
    subst (λ (r : Result Decoder RLNCError). Loading c.args.form.now c.args.elements.now r c.args.elements.now) (sym e)
    (loads_unlisted _ _ c.in-len1-up.len_at_least (sym c.of_kind.ensures ∙ c.in_err-g.ensures.ok_part))

pub returns-in_err-d : goal.returns-in_err-d
returns-in_err-d c =
    let e = handed_on c.in_err-d.ensures.value c.in_err-d.ensures.ok_part (err_from_is_err_and _ c.from_residual-in_err-d.ensures.1) in
    let h : length c.args.form.now < form_size c.in_ok-g.g = rw c.in_err-d.ensures.ok_part at c.parts.ensures in
    subst (λ (r : Result Decoder RLNCError). Loading c.args.form.now c.args.elements.now r c.args.elements.now) (sym e)
    (loads_short _ _ c.in-len1-up.len_at_least c.in_ok-g.g (sym c.of_kind.ensures ∙ c.in_ok-g.ensures.ok_part) h)

pub returns-then-elements-n : goal.returns-then-elements-n
returns-then-elements-n c =
    let (w, d_is, matrix_is) = rw c.in_ok-d.ensures.ok_part at c.parts.ensures in
    let n = long c.in_ok-g.g c.args.form.now w d_is matrix_is in
    loads_no_room _ _ c.in-len1-up.len_at_least c.in_ok-g.g (sym c.of_kind.ensures ∙ c.in_ok-g.ensures.ok_part) w (omega (arith, n))

pub is_bad-requires : goal.is_bad-requires
is_bad-requires c =
    let (w, d_is, matrix_is) = rw c.in_ok-d.ensures.ok_part at c.parts.ensures in
    whole c.in_ok-g.g c.args.form.now w d_is matrix_is

pub returns-then-is_bad : goal.returns-then-is_bad
returns-then-is_bad c =
    let (w, d_is, matrix_is) = rw c.in_ok-d.ensures.ok_part at c.parts.ensures in
    let n = long c.in_ok-g.g c.args.form.now w d_is matrix_is in
    loads_bad _ _ c.in-len1-up.len_at_least c.in_ok-g.g (sym c.of_kind.ensures ∙ c.in_ok-g.ensures.ok_part) w (omega (arith, n))
    (sym (c.if-is_bad.ensures ∙ same_bad c.in_ok-g.g c.args.form.now w d_is matrix_is))

pub returns : goal.returns
returns c =
    let (w, d_is, matrix_is) = rw c.in_ok-d.ensures.ok_part at c.parts.ensures in
    let n = long c.in_ok-g.g c.args.form.now w d_is matrix_is in
    subst (λ (d : Decoder). Loading c.args.form.now c.args.elements.now (Ok d) (c.copy_from_slice.new.self ++ drop (length c.in_ok-d.matrix.now) c.args.elements.now))
    (sym d_is)
    (loads _ _ c.in-len1-up.len_at_least c.in_ok-g.g (sym c.of_kind.ensures ∙ c.in_ok-g.ensures.ok_part) w (omega (arith, n))
    (sym (c.if-is_bad.ensures ∙ same_bad c.in_ok-g.g c.args.form.now w d_is matrix_is))
    (λ i. (c.copy_from_slice.ensures.after ∙ matrix_is) i ++ drop (n i) c.args.elements.now))
