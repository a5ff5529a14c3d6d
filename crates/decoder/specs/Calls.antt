-- One call of `decode`, by what its contract says: the number, and the record and the buffer after it.
use Rattle.std.specs.Prelude.{List, ℕ, length, Ok}
use Rattle.answers.specs.Number.{number_of}
use Rattle.galois.specs.FieldLaws.{FieldLaws}
use Rattle.linear.specs.Buffer.{holding}
use Rattle.block.specs.Refusal.{if_ok}
use Rattle.decoder.specs.declared.Decoder.{Decoder}
use Rattle.decoder.specs.Records.{k_of, f_of}
use Rattle.decoder.specs.Answers.{taken_number}
use Rattle.decoder.specs.Entries.{take_refusal, rows_after, after, taking}

module _ (𝓕 : FieldLaws) (d : Decoder) (elements full : List ℕ) where
  unfoldable pub number_next : ℕ
  number_next = if_ok (take_refusal d (length elements) (length full)) (taken_number (Ok (taking 𝓕 d elements full))) (number_of (take_refusal d (length elements) (length full)))

  unfoldable pub record_next : Decoder
  record_next = if_ok (take_refusal d (length elements) (length full)) (after 𝓕 d elements full) d

  unfoldable pub buffer_next : List ℕ
  buffer_next = if_ok (take_refusal d (length elements) (length full)) (holding (k_of d) (f_of d) (rows_after 𝓕 d elements full) elements) elements
