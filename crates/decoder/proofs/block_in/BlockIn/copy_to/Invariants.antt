-- `decoder::block_in::BlockIn::copy_to` meets its contract. The invariant: up to row i the data is the block's.
use Rattle.std.proofs.Common.{◌*◌}
use Rattle.decoder.specs.Payloads.{bytes}
use Rattle.decoder.proofs.Copying.{Copied}
use Rattle.decoder.proofs.block_in.BlockIn.copy_to.Given as goal

abbrev pub invariant-loop-i : goal.invariant-loop-i
invariant-loop-i l = Copied (bytes l.self) l.initial.«data» l.«data» (l.i * l.self.len)
