-- `rlnc::encode::rlnc_encoder_without_padding` meets its contract: it hands on what `encoder` ensures.
use Rattle.std.proofs.Common.{rules}
use Rattle.rlnc.proofs.Records.{unpadded_made}
use Rattle.rlnc.proofs.encode.rlnc_encoder_without_padding.Goals as goal

pub returns : goal.returns
returns c = unpadded_made c.without_padding-made.ensures (λ e x p. search rules) c.map.ensures.cases c.give.ensures
