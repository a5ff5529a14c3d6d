-- `setjoin::run` is safe: the text that waits lies in its buffer.
use Rattle.std.proofs.Common.{◌≤◌}
use Rattle.setjoin.proofs.run.Given as goal

abbrev pub invariant-loop : goal.invariant-loop
invariant-loop l = l.used ≤ 65536
