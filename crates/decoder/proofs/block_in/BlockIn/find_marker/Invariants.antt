-- `decoder::block_in::BlockIn::find_marker` meets its contract. The invariant: there is no marker in the rows from i on.
use Rattle.std.proofs.Common.{◌≡◌, ◌*◌, drop, None}
use Rattle.block.specs.Padding.{marker}
use Rattle.block.specs.Reading.{last_marker}
use Rattle.decoder.specs.Payloads.{bytes}
use Rattle.decoder.proofs.block_in.BlockIn.find_marker.Given as goal

abbrev pub invariant-loop-i : goal.invariant-loop-i
invariant-loop-i l = last_marker marker (drop (l.i * l.self.len) (bytes l.self)) ≡ None
