-- What it says in numbers that no test refuses a piece: a record whose numbers are good, a row missing, a whole piece, and one that may be taken.
-- Assumes nothing.
use mathlib.Core.Path.{◌≡◌}
use mathlib.Core.Bool.{not}
use Prim.Native.Nat.{ℕ, ◌<◌}
use native.Mathlib.Omega.{arith}
use lib.Dec.{eqb, leb}
use borrow.Author.Tests.{not-false, eqb-true, eqb-false, leb-false}
use Rattle.std.specs.Prelude.{Ok, Err}
use Rattle.answers.specs.declared.RLNCError.TheVariants.{BadState, ReceivedAllPieces, InvalidPieceLength, TooManyTaken}
use Rattle.block.proofs.Chosen.{passes}
use Rattle.decoder.specs.declared.Decoder.{Decoder}
use Rattle.decoder.specs.Records.{k_of, f_of, rows_in, taken_by, bad_state}
use Rattle.decoder.specs.Entries.{take_refusal}
use Rattle.decoder.proofs.Sound.{Holds, holds}

pub record Accepted (d : Decoder) (room size : ℕ) : Type 0 where
  pub held : Holds d room
  pub missing : rows_in d < k_of d
  pub whole : size ≡ f_of d
  pub wanted : taken_by d < 65535

pub accepted : (d : Decoder) (room size : ℕ) → take_refusal d room size ≡ Ok tt → Accepted d room size
unfolding take_refusal
accepted d room size e =
    let state = passes (bad_state d room) (Err BadState) _ (omega arith) e in
    let all = passes (eqb (rows_in d) (k_of d)) (Err ReceivedAllPieces) _ (omega arith) state.1 in
    let long = passes (not (eqb size (f_of d))) (Err InvalidPieceLength) _ (omega arith) all.1 in
    let many = passes (leb 65535 (taken_by d)) (Err TooManyTaken) (Ok tt) (omega arith) long.1 in
    let h : Holds d room = holds d room state.0 in
    record {
      held = h;
      missing = omega (arith, h.numbers.rows_pieces, eqb-false (rows_in d) (k_of d) all.0);
      whole = eqb-true _ _ (not-false (eqb size (f_of d)) long.0);
      wanted = leb-false _ _ many.0;
    }
