-- `rlnc::decode::rlnc_decoder_decode` meets its contract: it hands on what `decoder` ensures, with the answer's number.
use mathlib.Core.Path.{◌∙◌}
use Rattle.rlnc.proofs.Records.{piece_taken}
use Rattle.rlnc.proofs.decode.rlnc_decoder_decode.Goals as goal

pub returns : goal.returns
returns c = let a = c.after_piece-answer.ensures in piece_taken c.decode-taken.ensures _ c.decoder_of-decoder.ensures (c.number.ensures ∙ a.number) a.record
