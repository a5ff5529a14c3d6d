-- `decoder_matrix::DecoderMatrix::swap_rows` meets its contract: what the exchange of the rows held leaves is left in the buffer.
use Rattle.std.proofs.Common.{arith, rules, sym}
use Rattle.decoder_matrix.proofs.Answered.{swapped}
use Rattle.decoder_matrix.proofs.DecoderMatrix.swap_rows.Goals as goal

pub returns : goal.returns
returns c =
    swapped c.args.self c.args.elements.now c.args.row1_idx c.args.row2_idx (sym c.if-not-sizes_fit.ensures) (omega arith) (omega arith)
    (search rules) c.swap_rows.ensures.ruled
