-- What the recoder writes is a piece, and truthful for a block that its pieces are truthful for: it is what `recode` makes of them.
-- Assumes nothing.
use mathlib.Core.Path.{◌≡◌, sym, ap, ◌∙◌, subst}
use mathlib.Core.List.{List, []}
use Prim.Native.Nat.{ℕ, ◌+◌, ◌-◌}
use native.Mathlib.Omega.{arith}
use lib.ListN.{length}
use Rattle.std.specs.Prelude.{Ok, Err}
use Rattle.answers.specs.declared.RLNCError.TheVariants.{BadState}
use Rattle.galois.specs.FieldLaws.{FieldLaws}
use Rattle.linear.specs.All.{All, Bytes}
use Rattle.linear.specs.Buffer.{rows_of}
use Rattle.linear.specs.Blocks.{Agrees}
use Rattle.linear.specs.Pieces.{Piece, Truthful, recode}
use Rattle.linear.proofs.All.{all_imp, all_both}
use Rattle.linear.proofs.Buffer.{sizes_of}
use Rattle.linear.proofs.Coding.{recode_piece, recode_truthful}
use Rattle.block.proofs.Chosen.{passes}
use Rattle.block.proofs.RowBytes.{rows_bytes}
use Rattle.recoder.specs.declared.Recoder.{Recoder}
use Rattle.recoder.specs.Entries.{bad_state, recode_refusal, Recoded}
use Rattle.recoder.proofs.State.{Held, held}

-- the coefficients and the payload of a piece
abbrev pub payload_of : Recoder → ℕ
payload_of d = d.full_coded_piece_byte_len - d.num_pieces_coded_together

module _ (𝓕 : FieldLaws) (d : Recoder) (pieces vector out last : List ℕ) (c : Recoded 𝓕 d pieces vector out (Ok tt) last) where
  good : Held d (length pieces)
  unfolding recode_refusal
  good = held d (length pieces) (passes (bad_state d (length pieces)) (Err BadState) _ (omega arith) (sym c.result)).0

  width : d.full_coded_piece_byte_len ≡ d.num_pieces_coded_together + payload_of d
  width = omega (arith, good.within_limits.payload)

  recoded : recode 𝓕 (d.num_pieces_coded_together + payload_of d) (rows_of d.full_coded_piece_byte_len d.num_pieces_received pieces) vector ≡ last
  recoded =
      ap (λ (w : ℕ). recode 𝓕 w (rows_of d.full_coded_piece_byte_len d.num_pieces_received pieces) vector) (sym width)
      ∙ sym (rw (sym c.result) at c.left)

  sizes : All (λ p. length p ≡ d.num_pieces_coded_together + payload_of d) (rows_of d.full_coded_piece_byte_len d.num_pieces_received pieces)
  sizes = all_imp (λ p e. e ∙ width) (sizes_of d.full_coded_piece_byte_len d.num_pieces_received pieces good.long)

  pub recoded_piece : Bytes pieces → Piece d.num_pieces_coded_together (payload_of d) last
  recoded_piece b =
      subst (Piece d.num_pieces_coded_together (payload_of d)) recoded
      (recode_piece 𝓕 d.num_pieces_coded_together (payload_of d) [] (rows_of d.full_coded_piece_byte_len d.num_pieces_received pieces) vector
      (all_imp (λ p h. record { size = h.0; bytes = h.1 })
      (all_both sizes (rows_bytes d.full_coded_piece_byte_len d.num_pieces_received pieces b))))

  pub recoded_truthful : (block : List (List ℕ))
      → Agrees 𝓕 d.num_pieces_coded_together (payload_of d) (rows_of d.full_coded_piece_byte_len d.num_pieces_received pieces) block
      → Truthful 𝓕 d.num_pieces_coded_together (payload_of d) block last
  recoded_truthful block a =
      subst (Truthful 𝓕 d.num_pieces_coded_together (payload_of d) block) recoded
      (recode_truthful 𝓕 d.num_pieces_coded_together (payload_of d) block (rows_of d.full_coded_piece_byte_len d.num_pieces_received pieces) vector
      sizes a)
