-- `decoder_matrix::DecoderMatrix::rref` meets its contract: the three rules, one after the other.
use Rattle.std.proofs.Common.{rules}
use Rattle.field.specs.FieldOf.{field_of}
use Rattle.decoder_matrix.proofs.Answered.{ruled}
use Rattle.decoder_matrix.proofs.DecoderMatrix.rref.Goals as goal

pub returns : goal.returns
returns c = ruled (field_of c.args.f) c.clean_forward.ensures c.clean_backward.ensures c.remove_zero_rows.ensures (search rules)
