-- `rows::combining::double`: a turn stores x times the byte that it finds.
use Rattle.std.proofs.Common.{◌<◌, length, refl, sym, ap, ◌∙◌, arith}
use Rattle.field.specs.FieldOf.{field_of}
use Rattle.linear.proofs.Sums.{length_scale, scale_entry}
use Rattle.rows.proofs.Turned.{starts, finds, turns}
use Rattle.rows.proofs.combining.double.Goals as goal

pub loop-b-init : goal.loop-b-init
loop-b-init c = starts 0 (omega arith) (length_scale (field_of c.args.f) _ _) refl

pub loop-b-preserved : goal.loop-b-preserved
loop-b-preserved c =
    let a = c.args in
    let 𝓕 = field_of a.f in
    let l = c.loop-b in
    let h : l.b-index < length a.row.now = omega arith in
    turns 0 l.invariant h (c.times_x.ensures ∙ ap (𝓕.mul 2) (finds 0 l.invariant h) ∙ sym (scale_entry 𝓕 2 a.row.now l.b-index))
