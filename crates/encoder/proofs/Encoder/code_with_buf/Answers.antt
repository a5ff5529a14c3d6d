-- `encoder::Encoder::code_with_buf` meets its contract: the tests are the order's, the vector is copied to the front, and its payload combined behind it.
-- Assumes nothing.
use Rattle.std.proofs.Common.{◌≡◌, false, ℕ, ◌+◌, ◌*◌, ◌≤◌, List, ◌++◌, length, drop, arith, sym, ap, ap₂, subst, ◌∙◌, eq-eqb}
use lib.Seq.{take-length}
use Rattle.field.specs.FieldOf.{field_of}
use Rattle.block.proofs.Chosen.{admitted}
use Rattle.linear.specs.Buffer.{rows_of}
use Rattle.linear.specs.Pieces.{combine, encode}
use Rattle.rows.proofs.Combined.{combined}
use Rattle.encoder.specs.Entries.{bad_state, code_whole_refusal}
use Rattle.encoder.proofs.State.{held}
use Rattle.encoder.proofs.Whole.{payload, whole}
use Rattle.encoder.proofs.Outcomes.{code_whole_made}
use Rattle.encoder.proofs.Encoder.code_with_buf.Goals as goal

pub overflow_add-k : goal.overflow_add-k
overflow_add-k c =
    omega (arith, (held c.args.self (length c.args.block.now) (admitted _ c.admit.ensures c.in_ok-admit.was)).sizes)

pub returns : goal.returns
unfolding code_whole_refusal encode
returns c =
    let a = c.args in
    let k = a.self.piece_count in
    let L = a.self.piece_byte_len in
    let lv : length a.coding_vector.now ≡ k = c.if-coding_vector-k.false in
    let lf : length a.full_coded_piece.now ≡ k + L = c.if-full_coded_piece-k.false in
    let copied =
    ap₂ (λ (l : List ℕ) (n : ℕ). l ++ drop n a.full_coded_piece.now) (c.copy_from_slice.ensures.after ∙ sym (take-length a.coding_vector.now)) (sym lv) in
    let lo = payload a.coding_vector.now a.full_coded_piece.now k L lv lf copied in
    let good : bad_state a.self (length a.block.now) ≡ false = admitted _ c.admit.ensures c.in_ok-admit.was in
    let made =
    combined c.combine.ensures
    (subst (λ (n : ℕ). n ≤ length a.block.now) (λ i. sym lv i * sym lo i) (held a.self (length a.block.now) good).long) in
    code_whole_made (simp (good, eq-eqb _ _ lf, eq-eqb _ _ lv)) made.0
    (whole a.coding_vector.now a.full_coded_piece.now k L lv lf copied _
    ∙ ap (λ (l : List ℕ). a.coding_vector.now ++ l)
    (made.1 ∙ (λ i. combine (field_of a.f) (lo i) a.coding_vector.now (rows_of (lo i) (lv i) a.block.now))))
