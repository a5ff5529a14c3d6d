-- `decoder_matrix::rules::Held::move_row` meets its contract: the part copied is row `from`, and it is put over row `to`.
use Rattle.std.proofs.Common.{length, arith, refl}
use Rattle.decoder_matrix.proofs.Sizes.{sized}
use Rattle.decoder_matrix.proofs.Stored.{moved}
use Rattle.decoder_matrix.proofs.rules.Held.move_row.Goals as goal

pub returns : goal.returns
returns c =
    let h = c.args.self.now in
    record {
      matrix = refl;
      lent = refl;
      ruled = moved h.matrix.cols h.matrix.rows h.elements.now (sized h.matrix (length h.elements.now) h.fits).held c.args.from c.args.to (omega arith) (omega arith) c.copy_within.ensures.after;
    }
