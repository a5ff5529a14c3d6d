-- `rows::scale`: a turn stores a byte of the row scaled.
use Rattle.std.proofs.Common.{◌<◌, length, refl, sym, ap, ◌∙◌, arith}
use Rattle.linear.proofs.Sums.{length_scale, scale_entry}
use Rattle.rows.proofs.Turned.{starts, finds, turns}
use Rattle.rows.proofs.scale.Goals as goal

pub loop-b-init : goal.loop-b-init
loop-b-init c = λ 𝓕 e. starts 0 (omega arith) (length_scale 𝓕 _ _) refl

pub loop-b-preserved : goal.loop-b-preserved
loop-b-preserved c =
    let a = c.args in
    let l = c.loop-b in
    let h : l.b-index < length a.vec.now = omega arith in
    λ 𝓕 e. turns 0 (l.invariant 𝓕 e) h
    (c.sum_chosen.ensures 𝓕 a.q e ∙ ap (𝓕.mul a.q) (finds 0 (l.invariant 𝓕 e) h) ∙ sym (scale_entry 𝓕 a.q a.vec.now l.b-index))
