-- `listing::join::take` meets its contract: it hands on what `decoder` ensures.
use mathlib.Core.Path.{sym}
use Rattle.listing.proofs.Taking.{took}
use Rattle.listing.proofs.join.take.Goals as goal

pub returns : goal.returns
returns c = took c.decode.ensures c.after_piece.result.0 c.after_piece.result.1 (sym c.after_piece.ensures.record) (sym c.after_piece.ensures.number)
