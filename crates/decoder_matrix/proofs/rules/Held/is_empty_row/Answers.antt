-- `decoder_matrix::rules::Held::is_empty_row` meets its contract: the part tested is the front of row j.
use Rattle.std.proofs.Common.{ℕ, ◌*◌, take, drop, length, sym, ap, ◌∙◌}
use native.Mathlib.Nat.{add-sub_cancel_left}
use lib.Seq.{take-take}
use Rattle.linear.specs.Rows.{all_zero}
use Rattle.linear.proofs.Buffer.{row_at_lem}
use Rattle.decoder_matrix.specs.Matrix.{k_of}
use Rattle.decoder_matrix.proofs.Sizes.{sized}
use Rattle.decoder_matrix.proofs.rules.Held.is_empty_row.Goals as goal

pub returns : goal.returns
returns c =
    let h = c.args.self.now in
    let m = h.matrix in
    let k = k_of m in
    let rest = drop (c.args.j * m.cols) h.elements.now in
    c.is_zero.ensures
    ∙ ap all_zero
    (ap (λ (i : ℕ). take i rest) (add-sub_cancel_left (c.args.j * m.cols) k)
    ∙ sym (take-take k m.cols rest (sized m (length h.elements.now) h.fits).wide)
    ∙ ap (take k) (sym (row_at_lem m.cols m.rows c.args.j h.elements.now c.requires)))
