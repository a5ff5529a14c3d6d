-- `rlnc::encode::rlnc_encoder_new` meets its contract: it hands on what `encoder` ensures.
use Rattle.std.proofs.Common.{rules}
use Rattle.rlnc.proofs.Records.{encoder_made}
use Rattle.rlnc.proofs.encode.rlnc_encoder_new.Goals as goal

pub returns : goal.returns
returns c = encoder_made c.new-made.ensures (λ e x p. search rules) c.map.ensures.cases c.give.ensures
