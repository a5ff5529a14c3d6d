-- Pieces of one sender and of relays behind it: coded from the sender's block with any vector, or recoded, with any numbers, from such pieces.
use Rattle.std.specs.Prelude.{◌≡◌, List, [], ℕ, ◌+◌, ◌<◌, get_or, Ok}
use Rattle.galois.specs.FieldLaws.{FieldLaws}
use Rattle.linear.specs.Buffer.{rows_of}
use Rattle.encoder.specs.declared.Encoder.{Encoder}
use Rattle.encoder.specs.Entries.{CodedWhole}
use Rattle.recoder.specs.declared.Recoder.{Recoder}
use Rattle.recoder.specs.Entries.{Recoded}

pub data Sent (𝓕 : FieldLaws) (e : Encoder) (block : List ℕ) : List ℕ → Type 0 where
  coded : {vector out full : List ℕ} → CodedWhole 𝓕 e block vector out (Ok tt) full → Sent 𝓕 e block full
  recoded : {d : Recoder} {pieces numbers out full : List ℕ} → d.num_pieces_coded_together ≡ e.piece_count
      → d.full_coded_piece_byte_len ≡ e.piece_count + e.piece_byte_len
      → ((i : ℕ) → i < d.num_pieces_received → Sent 𝓕 e block (get_or (rows_of d.full_coded_piece_byte_len d.num_pieces_received pieces) i []))
      → Recoded 𝓕 d pieces numbers out (Ok tt) full → Sent 𝓕 e block full
