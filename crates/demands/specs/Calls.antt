-- A run of calls of `decode`, by what its contract says: for each piece its number, and rows and taken after it.
use Rattle.std.specs.Prelude.{List, [], ◌∷◌, ℕ, ◌+◌, ◌*◌, replicate}
use Rattle.galois.specs.FieldLaws.{FieldLaws}
use Rattle.decoder.specs.declared.Decoder.{Decoder}
use Rattle.decoder.specs.Records.{rows_in, taken_by}
use Rattle.decoder.specs.Entries.{decoder_of}
use Rattle.decoder.specs.Calls.{number_next, record_next, buffer_next}

-- number, rows and taken, call by call
unfoldable pub lines : FieldLaws → Decoder → List ℕ → List (List ℕ) → List (List ℕ)
lines 𝓕 d elements [] = []
lines 𝓕 d elements (full ∷ later) =
    (number_next 𝓕 d elements full ∷ rows_in (record_next 𝓕 d elements full) ∷ taken_by (record_next 𝓕 d elements full) ∷ [])
    ∷ lines 𝓕 (record_next 𝓕 d elements full) (buffer_next 𝓕 d elements full) later

-- the buffer after all of them
unfoldable pub buffer_after : FieldLaws → Decoder → List ℕ → List (List ℕ) → List ℕ
buffer_after 𝓕 d elements [] = elements
buffer_after 𝓕 d elements (full ∷ later) = buffer_after 𝓕 (record_next 𝓕 d elements full) (buffer_next 𝓕 d elements full) later

-- of a fresh decoder of k pieces of L bytes
unfoldable pub lines_from_new : FieldLaws → ℕ → ℕ → List (List ℕ) → List (List ℕ)
lines_from_new 𝓕 k L pieces = lines 𝓕 (decoder_of k L 0 0) (replicate (k * (k + L)) 0) pieces

unfoldable pub buffer_from_new : FieldLaws → ℕ → ℕ → List (List ℕ) → List ℕ
buffer_from_new 𝓕 k L pieces = buffer_after 𝓕 (decoder_of k L 0 0) (replicate (k * (k + L)) 0) pieces
