-- A decoder that was saved and loaded: every later line of the listing, and the data handed over at the end, are as they would have been, whatever the
-- rest of the stream. Before it some pieces were read, and some were repeats.
use Rattle.std.specs.Prelude.{◌≡◌, List, ℕ, Some, Result, Ok}
use Rattle.answers.specs.declared.RLNCError.{RLNCError}
use Rattle.galois.specs.FieldLaws.{FieldLaws}
use Rattle.stream.specs.Streams.{Stream}
use Rattle.decoder.specs.declared.Decoder.{Decoder}
use Rattle.listing.specs.declared.join.Joining.{Joining}
use Rattle.listing.specs.Listing.{lines_from}
use Rattle.joiner.specs.Runs.{close_from}

abbrev pub going_on : Decoder → ℕ → ℕ → Joining
going_on d pieces repeats = record { held = Some d; pieces = pieces; repeats = repeats }

-- a decoder and what was loaded of it: the same record, and beside it a matrix that prints the same and hands over the same
pub record Resumed (𝓕 : FieldLaws) (d : Decoder) (elements : List ℕ) (r : Result Decoder RLNCError) (matrix : List ℕ) : Type 0 where
  pub same_record : r ≡ Ok d
  pub same_lines : (pieces repeats : ℕ) (later : Stream)
      → lines_from 𝓕 (going_on d pieces repeats) elements later ≡ lines_from 𝓕 (going_on d pieces repeats) matrix later
  pub same_close : (pieces repeats : ℕ) (later : Stream)
      → close_from 𝓕 (going_on d pieces repeats) elements later ≡ close_from 𝓕 (going_on d pieces repeats) matrix later
