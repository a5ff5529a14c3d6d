-- What the encoder writes is a piece, and truthful for its block: it is what `encode` makes of the block's pieces.
-- Assumes nothing.
use mathlib.Core.Path.{◌≡◌, sym, subst}
use mathlib.Core.Bool.{false, not}
use mathlib.Core.List.{List}
use Prim.Native.Nat.{ℕ, ◌+◌}
use native.Mathlib.Omega.{arith}
use lib.Dec.{eqb}
use lib.ListN.{length}
use borrow.Author.Tests.{eqb-true, not-false}
use Rattle.std.specs.Prelude.{Ok, Err}
use Rattle.answers.specs.declared.RLNCError.TheVariants.{CodingVectorLengthMismatch, InvalidOutputBuffer, BadState}
use Rattle.galois.specs.FieldLaws.{FieldLaws}
use Rattle.linear.specs.All.{Bytes}
use Rattle.linear.specs.Buffer.{rows_of}
use Rattle.linear.specs.Blocks.{Block}
use Rattle.linear.specs.Pieces.{Piece, Truthful, encode}
use Rattle.linear.proofs.Coding.{encode_piece, encode_truthful}
use Rattle.block.proofs.Chosen.{passes}
use Rattle.block.proofs.RowBytes.{block_of_lem}
use Rattle.encoder.specs.declared.Encoder.{Encoder}
use Rattle.encoder.specs.Entries.{bad_state, code_whole_refusal, CodedWhole}
use Rattle.encoder.proofs.State.{held}

module _ (𝓕 : FieldLaws) (e : Encoder) (block vector out last : List ℕ) (c : CodedWhole 𝓕 e block vector out (Ok tt) last) (bb : Bytes block) where
  -- the tests that an Ok has passed
  passed : (bad_state e (length block) ≡ false) × (length vector ≡ e.piece_count)
  unfolding code_whole_refusal
  passed =
      let p = passes (bad_state e (length block)) (Err BadState) _ (omega arith) (sym c.result) in
      let q = passes (not (eqb (length out) (e.piece_count + e.piece_byte_len))) (Err InvalidOutputBuffer) _ (omega arith) p.1 in
      let r = passes (not (eqb (length vector) e.piece_count)) (Err CodingVectorLengthMismatch) _ (omega arith) q.1 in
      (p.0, eqb-true _ _ (not-false _ r.0))

  coded : encode 𝓕 e.piece_byte_len (rows_of e.piece_byte_len e.piece_count block) vector ≡ last
  coded = sym (rw (sym c.result) at c.left)

  pieces : Block e.piece_count e.piece_byte_len (rows_of e.piece_byte_len e.piece_count block)
  pieces = block_of_lem e.piece_count e.piece_byte_len block (held e (length block) passed.0).long bb

  pub coded_piece : Bytes vector → Piece e.piece_count e.piece_byte_len last
  coded_piece bv =
      subst (Piece e.piece_count e.piece_byte_len) coded
      (encode_piece 𝓕 e.piece_count e.piece_byte_len (rows_of e.piece_byte_len e.piece_count block) vector pieces passed.1 bv)

  pub coded_truthful : Truthful 𝓕 e.piece_count e.piece_byte_len (rows_of e.piece_byte_len e.piece_count block) last
  coded_truthful =
      subst (Truthful 𝓕 e.piece_count e.piece_byte_len (rows_of e.piece_byte_len e.piece_count block)) coded
      (encode_truthful 𝓕 e.piece_count e.piece_byte_len (rows_of e.piece_byte_len e.piece_count block) vector pieces passed.1)
