-- `rows::clear`: the first bytes are zero, the others as they were.
use Rattle.std.proofs.Common.{length, replicate}
use Rattle.rows.proofs.Turned.{Turned}
use Rattle.rows.proofs.clear.Given as goal

abbrev pub invariant-loop-b : goal.invariant-loop-b
invariant-loop-b l = Turned l.b-index (replicate (length l.initial.vec) 0) l.initial.vec l.vec
