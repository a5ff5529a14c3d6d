-- `decoder_matrix::rules::Held::clear_above` meets its contract: clearing the rows above leaves row i in place, and it is scaled there.
use Rattle.std.proofs.Common.{◌≡◌, true, inr, ◌*◌, length, arith, sym, ap, ◌∙◌}
use native.Mathlib.Nat.{add-sub_cancel_left}
use Rattle.field.specs.FieldOf.{field_of}
use Rattle.decoder_matrix.specs.Matrix.{sizes_fit}
use Rattle.decoder_matrix.specs.Steps.{rows_of_held}
use Rattle.decoder_matrix.proofs.Sizes.{sized, pivot_byte}
use Rattle.decoder_matrix.proofs.Applied.{stays}
use Rattle.decoder_matrix.proofs.Passes.{inverse_byte, inverse_nonzero, inverse_zero, backward_skips, above_done}
use Rattle.decoder_matrix.proofs.rules.Held.clear_above.Goals as goal

pub returns-in_default : goal.returns-in_default
returns-in_default c =
    let h = c.args.self.now in
    let byte = pivot_byte h.matrix h.elements.now h.fits c.args.i c.requires in
    stays h (backward_skips (field_of c.args.f) c.args.i (rows_of_held h) (sym byte ∙ inverse_zero _ _ (sym c.in_default.ensures)))

pub clear_rows-requires : goal.clear_rows-requires
clear_rows-requires c =
    let h = c.args.self.now in
    let byte = pivot_byte h.matrix h.elements.now h.fits c.args.i c.requires in
    record {
      order = omega arith;
      held = omega arith;
      row = c.requires;
      outside = inr (omega arith);
      pivot = λ z. inverse_nonzero _ _ _ (sym c.in-Some.ensures) (byte ∙ z);
    }

pub returns : goal.returns
returns c =
    let h = c.args.self.now in
    let mid = c.clear_rows.new.self in
    let u = c.clear_rows.ensures in
    let byte = pivot_byte h.matrix h.elements.now h.fits c.args.i c.requires in
    let is = sym c.in-Some.ensures in
    let fits : sizes_fit h.matrix (length mid.elements.now) ≡ true = rw u.matrix at mid.fits in
    record {
      matrix = u.matrix;
      lent = u.lent;
      ruled =
          above_done (field_of c.args.f) h.matrix.cols h.matrix.rows c.args.i _ _ c.requires
          (sized h.matrix (length mid.elements.now) fits).held
          (add-sub_cancel_left (c.args.i * h.matrix.cols) h.matrix.cols)
          (λ z. inverse_nonzero _ _ _ is (byte ∙ z))
          (inverse_byte _ _ _ is ∙ ap (field_of c.args.f).inv byte)
          u.ruled c.inplace_mul_vec_by_scalar.ensures.left;
    }
