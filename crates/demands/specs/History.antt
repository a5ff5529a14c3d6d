-- "Take a fresh decoder whose record and buffer only its own calls touch": its calls, one after the other, each known by the contract of the
-- entry alone. Recovery and the counts change neither record nor buffer, and may stand anywhere between; and it may be saved and loaded.
use Rattle.std.specs.Prelude.{List, [], ◌∷◌, ◌++◌, ℕ, ◌*◌, ◌≤◌, length, take, Ok, Err}
use Rattle.answers.specs.declared.RLNCError.{RLNCError}
use Rattle.galois.specs.FieldLaws.{FieldLaws}
use Rattle.linear.specs.All.{Bytes}
use Rattle.decoder.specs.declared.Decoder.{Decoder}
use Rattle.decoder.specs.declared.Taken.TheVariants.{Useful, NotUseful}
use Rattle.decoder.specs.Records.{k_of, f_of}
use Rattle.decoder.specs.Entries.{NewDecoder, Decoded}
use Rattle.stored.specs.Entries.{Saving, Loading}

-- the record and the buffer after some calls, and the pieces taken, the last first. The buffer handed to `new` may hold anything and be longer
-- than needed; a piece handed to `decode` may have any length and any bytes
pub data History (𝓕 : FieldLaws) (k L : ℕ) : Decoder → List ℕ → List (List ℕ) → Type 0 where
  made : {buffer elements : List ℕ} {d : Decoder} → NewDecoder L k buffer (Ok d) elements → History 𝓕 k L d elements []
  useful : {d d' : Decoder} {elements elements' full : List ℕ} {pieces : List (List ℕ)} → History 𝓕 k L d elements pieces
      → Bytes full → Decoded 𝓕 d elements full (Ok (Useful d')) elements' → History 𝓕 k L d' elements' (full ∷ pieces)
  not_useful : {d d' : Decoder} {elements elements' full : List ℕ} {pieces : List (List ℕ)} → History 𝓕 k L d elements pieces
      → Bytes full → Decoded 𝓕 d elements full (Ok (NotUseful d')) elements' → History 𝓕 k L d' elements' (full ∷ pieces)
  -- saved, and loaded from what was written, whatever stands behind it, into a buffer of any content that is long enough
  resumed : {d d' : Decoder} {elements out out' : List ℕ} {pieces : List (List ℕ)} {n : ℕ} → History 𝓕 k L d elements pieces → Saving d elements out (Ok n) out'
      → (behind matrix : List ℕ) {matrix' : List ℕ} → k_of d * f_of d ≤ length matrix → Loading (take n out' ++ behind) matrix (Ok d') matrix'
      → History 𝓕 k L d' matrix' pieces
  refused : {d : Decoder} {elements elements' full : List ℕ} {pieces : List (List ℕ)} {e : RLNCError} → History 𝓕 k L d elements pieces
      → Decoded 𝓕 d elements full (Err e) elements' → History 𝓕 k L d elements' pieces
