-- `decoder::block_in::last_marker` meets its contract: the search passes each byte behind the one that it finds.
use Rattle.std.proofs.Common.{rules}
use Rattle.block.specs.Padding.{marker}
use Rattle.decoder.proofs.Marker.{searched}
use Rattle.decoder.proofs.block_in.last_marker.Goals as goal

pub returns : goal.returns
returns c = searched marker c.args.part.now _ (search rules)
