-- `rows::add_row`: a turn stores a byte of the sum.
use Rattle.std.proofs.Common.{ℕ, ◌<◌, length, get_or, refl, sym, ap, ◌∙◌, arith}
use Rattle.galois.specs.Gf.{◌⊕◌}
use Rattle.rows.proofs.Turned.{starts, finds, turns}
use Rattle.rows.proofs.RowLaws.{length_sum, get_or_sum}
use Rattle.rows.proofs.add_row.Goals as goal

pub loop-i-init : goal.loop-i-init
loop-i-init c = starts 0 (omega arith) (length_sum _ _) refl

pub loop-i-preserved : goal.loop-i-preserved
loop-i-preserved c =
    let a = c.args in
    let l = c.loop-i in
    let h : l.i < length a.dst.now = omega arith in
    let k : l.i < length a.src.now = omega arith in
    turns 0 l.invariant h
    (ap (λ (x : ℕ). x ⊕ get_or a.src.now l.i 0) (finds 0 l.invariant h) ∙ sym (get_or_sum a.src.now a.dst.now l.i k h))
