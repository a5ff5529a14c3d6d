-- `rlnc::recode::rlnc_recoder_new` meets its contract: it hands on what `recoder` ensures.
use Rattle.std.proofs.Common.{rules}
use Rattle.rlnc.proofs.Records.{recoder_made}
use Rattle.rlnc.proofs.recode.rlnc_recoder_new.Goals as goal

pub returns : goal.returns
returns c = recoder_made c.new-made.ensures (λ d x p. search rules) c.map.ensures.cases c.give.ensures
