-- `recoder::Recoder::recode_with_buf` meets its contract: the tests are the order's, and `combine` has the whole pieces that it needs.
-- Assumes nothing.
use Rattle.std.proofs.Common.{◌≡◌, false, ℕ, ◌*◌, ◌≤◌, length, sym, subst, ◌∙◌, eq-eqb}
use Rattle.field.specs.FieldOf.{field_of}
use Rattle.block.proofs.Chosen.{admitted}
use Rattle.linear.specs.Buffer.{rows_of}
use Rattle.linear.specs.Pieces.{combine, recode}
use Rattle.rows.proofs.Combined.{combined}
use Rattle.recoder.specs.Entries.{bad_state, recode_refusal}
use Rattle.recoder.proofs.State.{held}
use Rattle.recoder.proofs.Outcomes.{recode_made}
use Rattle.recoder.proofs.Recoder.recode_with_buf.Goals as goal

pub returns : goal.returns
unfolding recode_refusal recode
returns c =
    let a = c.args in
    let lo = c.if-full_recoded_piece-self.false in
    let lv = c.if-recoding_vector-self.false in
    let good : bad_state a.self (length a.pieces.now) ≡ false = admitted _ c.admit.ensures c.in_ok-admit.was in
    let fit : length a.recoding_vector.now * length a.full_recoded_piece.now ≤ length a.pieces.now =
    subst (λ (n : ℕ). n ≤ length a.pieces.now) (λ i. sym lv i * sym lo i) (held a.self (length a.pieces.now) good).long in
    let made = combined c.combine.ensures fit in
    recode_made (simp (good, eq-eqb _ _ lo, eq-eqb _ _ lv)) made.0
    (made.1 ∙ (λ i. combine (field_of a.f) (lo i) a.recoding_vector.now (rows_of (lo i) (lv i) a.pieces.now)))
