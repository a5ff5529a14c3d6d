-- `listing::join::Joining::start` meets its contract, with a decoder and without.
use Rattle.std.proofs.Common.{refl}
use Rattle.listing.specs.Joining.{decoder_for, matrix_for}
use Rattle.listing.specs.Steps.{start_refusal}
use Rattle.listing.proofs.join.Joining.start.Goals as goal

pub returns-in-Some : goal.returns-in-Some
unfolding start_refusal decoder_for matrix_for
returns-in-Some c = record { result = rw c.in-Some.is refl; left = rw c.in-Some.is refl }

pub returns-in-None : goal.returns-in-None
unfolding start_refusal decoder_for matrix_for
returns-in-None c =
    record {
      result = rw c.in-None.is (rw (c.piece_byte_len.ensures, c.piece_count.ensures) at c.new.ensures.result);
      left = rw c.in-None.is (rw (c.piece_byte_len.ensures, c.piece_count.ensures) at c.new.ensures.left);
    }
