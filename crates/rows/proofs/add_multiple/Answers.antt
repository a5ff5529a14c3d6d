-- `rows::add_multiple`: a turn stores a byte of the sum.
use Rattle.std.proofs.Common.{◌<◌, length, refl, sym, ◌∙◌, arith}
use Rattle.galois.specs.Gf.{◌⊕◌}
use Rattle.linear.proofs.Sums.{length_add, add_entry}
use Rattle.rows.proofs.Turned.{starts, finds, turns}
use Rattle.rows.proofs.add_multiple.Goals as goal

pub loop-i-init : goal.loop-i-init
loop-i-init c = λ 𝓕 e. starts 0 (omega arith) (length_add 𝓕 _ _ _) refl

pub loop-i-preserved : goal.loop-i-preserved
loop-i-preserved c =
    let a = c.args in
    let l = c.loop-i in
    let h : l.i < length a.dst.now = omega arith in
    λ 𝓕 e. turns 0 (l.invariant 𝓕 e) h
    ((λ j. finds 0 (l.invariant 𝓕 e) h j ⊕ c.sum_chosen.ensures 𝓕 a.q e j) ∙ sym (add_entry 𝓕 a.q a.src.now a.dst.now l.i (omega arith)))
