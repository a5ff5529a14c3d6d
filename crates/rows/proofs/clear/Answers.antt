-- `rows::clear`: a turn stores a 0, as the zeros have there.
use Rattle.std.proofs.Common.{◌<◌, length, refl, sym, arith}
use lib.ListN.{get_or-replicate, length-replicate}
use Rattle.rows.proofs.Turned.{starts, turns}
use Rattle.rows.proofs.clear.Goals as goal

pub loop-b-init : goal.loop-b-init
loop-b-init c = starts 0 (omega arith) (length-replicate _ 0) refl

pub loop-b-preserved : goal.loop-b-preserved
loop-b-preserved c =
    let n = length c.args.vec.now in
    let h : c.loop-b.b-index < n = omega arith in
    turns 0 c.loop-b.invariant h (sym (get_or-replicate n c.loop-b.b-index 0 0 h))
