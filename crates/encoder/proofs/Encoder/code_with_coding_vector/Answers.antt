-- `encoder::Encoder::code_with_coding_vector` meets its contract: the tests are the order's, and `combine` has the rows that it needs.
-- Assumes nothing.
use Rattle.std.proofs.Common.{◌≡◌, false, ℕ, ◌*◌, ◌≤◌, length, sym, subst, ◌∙◌, eq-eqb}
use Rattle.field.specs.FieldOf.{field_of}
use Rattle.block.proofs.Chosen.{admitted}
use Rattle.linear.specs.Buffer.{rows_of}
use Rattle.linear.specs.Pieces.{combine}
use Rattle.rows.proofs.Combined.{combined}
use Rattle.encoder.specs.Entries.{bad_state, code_refusal}
use Rattle.encoder.proofs.State.{held}
use Rattle.encoder.proofs.Outcomes.{code_made}
use Rattle.encoder.proofs.Encoder.code_with_coding_vector.Goals as goal

pub returns : goal.returns
unfolding code_refusal
returns c =
    let a = c.args in
    let lv = c.if-coding_vector-self.false in
    let lo = c.if-coded_data-self.false in
    let good : bad_state a.self (length a.block.now) ≡ false = admitted _ c.admit.ensures c.in_ok-admit.was in
    let fit : length a.coding_vector.now * length a.coded_data.now ≤ length a.block.now =
    subst (λ (n : ℕ). n ≤ length a.block.now) (λ i. sym lv i * sym lo i) (held a.self (length a.block.now) good).long in
    let made = combined c.combine.ensures fit in
    code_made (simp (good, eq-eqb _ _ lv, eq-eqb _ _ lo)) made.0
    (made.1 ∙ (λ i. combine (field_of a.f) (lo i) a.coding_vector.now (rows_of (lo i) (lv i) a.block.now)))
