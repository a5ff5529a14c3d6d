-- The outcome of recoding where its order of refusals answers Ok: it makes what the definition says.
-- Assumes nothing.
use mathlib.Core.Path.{◌≡◌}
use mathlib.Core.List.{List}
use Prim.Native.Nat.{ℕ}
use lib.ListN.{length}
use Rattle.std.specs.Prelude.{Ok}
use Rattle.answers.specs.Number.{Answer}
use Rattle.galois.specs.FieldLaws.{FieldLaws}
use Rattle.linear.specs.Buffer.{rows_of}
use Rattle.linear.specs.Pieces.{recode}
use Rattle.recoder.specs.declared.Recoder.{Recoder}
use Rattle.recoder.specs.Entries.{recode_refusal, Recoded}

module _ {𝓕 : FieldLaws} {d : Recoder} {pieces vector out : List ℕ} where
  pub recode_made : {r : Answer} {last : List ℕ} → recode_refusal d (length pieces) (length vector) (length out) ≡ Ok tt → r ≡ Ok tt
      → last ≡ recode 𝓕 d.full_coded_piece_byte_len (rows_of d.full_coded_piece_byte_len d.num_pieces_received pieces) vector
      → Recoded 𝓕 d pieces vector out r last
  recode_made h r l = record { result = rw h r; left = rw h l }
