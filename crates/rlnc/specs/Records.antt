-- What the entries give that hand a record over as its numbers: the number of the answer, what then stands in the lent numbers, and what in
-- the lent buffers.
use Rattle.std.specs.Prelude.{◌≡◌, List, ◌++◌, ℕ, ◌+◌, ◌*◌, ◌/◌, length, take, drop, replicate}
use Rattle.answers.specs.Number.{number_of}
use Rattle.galois.specs.FieldLaws.{FieldLaws}
use Rattle.block.specs.Refusal.{if_ok}
use Rattle.block.specs.Padding.{piece_length, padded}
use Rattle.block.specs.Reading.{reading, data_length}
use Rattle.encoder.specs.declared.Encoder.{Encoder}
use Rattle.encoder.specs.Entries.{padded_refusal, unpadded_refusal}
use Rattle.recoder.specs.declared.Recoder.{Recoder}
use Rattle.recoder.specs.Entries as recoding
use Rattle.decoder.specs.declared.Decoder.{Decoder}
use Rattle.decoder.specs.Records.{rows_in, taken_by}
use Rattle.decoder.specs.Entries.{new_refusal, block_in, recover_refusal}
use Rattle.decoder.specs.Calls.{number_next, record_next, buffer_next}

-- the records of these numbers
abbrev pub encoder_of : ℕ → ℕ → Encoder
encoder_of k L = record { piece_count = k; piece_byte_len = L }

abbrev pub recoder_of : ℕ → ℕ → ℕ → Recoder
recoder_of m width k = record { num_pieces_received = m; full_coded_piece_byte_len = width; num_pieces_coded_together = k }

-- a new encoder of k pieces: `L` is the piece length that stood there
pub record EncoderMade (M : ℕ) (bytes block : List ℕ) (k L r L' : ℕ) (last : List ℕ) : Type 0 where
  pub number : r ≡ number_of (padded_refusal (length bytes) k (length block))
  pub length_stored : L' ≡ if_ok (padded_refusal (length bytes) k (length block)) (piece_length (length bytes) k) L
  pub left : last ≡ if_ok (padded_refusal (length bytes) k (length block)) (padded M k bytes ++ drop (k * piece_length (length bytes) k) block) block

-- the same of n bytes that are the block already
pub record UnpaddedMade (n k L r L' : ℕ) : Type 0 where
  pub number : r ≡ number_of (unpadded_refusal n k)
  pub length_stored : L' ≡ if_ok (unpadded_refusal n k) (n / k) L

-- a new recoder of the whole pieces in n bytes: `m` is the number that stood there
pub record RecoderMade (n width k m r m' : ℕ) : Type 0 where
  pub number : r ≡ number_of (recoding.new_refusal n width k)
  pub count_stored : m' ≡ if_ok (recoding.new_refusal n width k) (n / width) m

-- a new decoder: both counts are 0
pub record DecoderMade (L k : ℕ) (elements : List ℕ) (rows taken r rows' taken' : ℕ) (last : List ℕ) : Type 0 where
  pub number : r ≡ number_of (new_refusal L k (length elements))
  pub rows_stored : rows' ≡ if_ok (new_refusal L k (length elements)) 0 rows
  pub taken_stored : taken' ≡ if_ok (new_refusal L k (length elements)) 0 taken
  pub left : last ≡ if_ok (new_refusal L k (length elements)) (replicate (k * (k + L)) 0 ++ drop (k * (k + L)) elements) elements

-- a piece offered to the decoder d: the counts are those of the record after it, which is d itself where the piece is refused
pub record PieceTaken (𝓕 : FieldLaws) (d : Decoder) (elements full : List ℕ) (r rows' taken' : ℕ) (last : List ℕ) : Type 0 where
  pub number : r ≡ number_next 𝓕 d elements full
  pub rows_stored : rows' ≡ rows_in (record_next 𝓕 d elements full)
  pub taken_stored : taken' ≡ taken_by (record_next 𝓕 d elements full)
  pub left : last ≡ buffer_next 𝓕 d elements full

-- the data recovered: `n` is the length that stood there
pub record DataRecovered (M : ℕ) (d : Decoder) (elements out : List ℕ) (n r n' : ℕ) (last : List ℕ) : Type 0 where
  pub number : r ≡ number_of (recover_refusal M d elements (length out))
  pub length_stored : n' ≡ if_ok (recover_refusal M d elements (length out)) (data_length (reading M (block_in d elements))) n
  pub left : last ≡ if_ok (recover_refusal M d elements (length out)) (take (data_length (reading M (block_in d elements))) (block_in d elements) ++ drop (data_length (reading M (block_in d elements))) out) out
