-- `rlnc::pieces::give_record` meets its contract: the number and the kind are those of the case.
use Rattle.rlnc.proofs.Streams.{record_gave}
use Rattle.rlnc.proofs.pieces.give_record.Goals as goal

pub returns : goal.returns
returns c = record_gave c.map.ensures.cases c.give.ensures
