-- `rows::add_row`: the first i bytes are those of the sum, the others as they were.
use Rattle.rows.specs.Outcomes.{add_row}
use Rattle.rows.proofs.Turned.{Turned}
use Rattle.rows.proofs.add_row.Given as goal

abbrev pub invariant-loop-i : goal.invariant-loop-i
invariant-loop-i l = Turned l.i (add_row l.src l.initial.dst) l.initial.dst l.dst
