-- `decoder_matrix::rules::Held::swap_rows` meets its contract: the two rows are put in each other's place, whichever comes first.
use Rattle.std.proofs.Common.{length, refl, sym}
use Rattle.decoder_matrix.specs.Steps.{rows_of_held}
use Rattle.decoder_matrix.proofs.Sizes.{sized}
use Rattle.decoder_matrix.proofs.Stored.{swapped, swap_same}
use Rattle.decoder_matrix.proofs.rules.Held.swap_rows.Goals as goal

pub returns-then-i-j : goal.returns-then-i-j
returns-then-i-j c = record { matrix = refl; lent = refl; ruled = record { rows = sym (swap_same (rows_of_held c.args.self.now) c.args.i c.args.j c.if-i-j.true); rest = refl } }

pub returns : goal.returns
returns c =
    let h = c.args.self.now in
    record {
      matrix = refl;
      lent = refl;
      ruled =
          swapped h.matrix.cols h.matrix.rows h.elements.now (sized h.matrix (length h.elements.now) h.fits).held
          c.args.i c.args.j c.requires.i_is_held c.requires.j_is_held c.if-i-j.false
          (rw (c.min-first.ensures, c.max-last.ensures) at c.swap_parts.ensures);
    }
