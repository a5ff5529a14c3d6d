-- `decoder::block_in::BlockIn::is_zero_from` meets its contract. The invariant: the answer is that of the rows' bytes from row i on, and from `at` on.
use Rattle.std.proofs.Common.{◌≡◌, ◌+◌, ◌-◌, ◌*◌, ◌≤◌, drop}
use Rattle.linear.specs.Rows.{all_zero}
use Rattle.decoder.specs.Payloads.{bytes}
use Rattle.decoder.proofs.block_in.BlockIn.is_zero_from.Given as goal

abbrev pub invariant-loop-i : goal.invariant-loop-i
invariant-loop-i l = record {
  within : l.at ≤ l.i * l.self.len + l.self.len;
  rest : all_zero (drop l.at (bytes l.self)) ≡ all_zero (drop (l.i * l.self.len + (l.at - l.i * l.self.len)) (bytes l.self));
}
