-- The machine fed with a whole input, call by call, each call known by what `feed` ensures alone.
use Rattle.std.specs.Prelude.{◌≡◌, List, [], ◌++◌, ℕ, suc, ◌+◌, take, drop, replicate, Ok}
use Rattle.galois.specs.FieldLaws.{FieldLaws}
use Rattle.stream.specs.declared.Record.TheVariants as record·
use Rattle.stream.specs.Streams.{Stream, piece, end, stop, stream_of}
use Rattle.reader.specs.Reading.{wanted}
use Rattle.listing.specs.declared.join.Joining.{Joining}
use Rattle.listing.specs.Joining.{nothing, joined_after, elements_after}
use Rattle.listing.specs.Listing.{matrix_length}
use Rattle.joiner.specs.declared.Ending.{Ending}
use Rattle.joiner.specs.declared.Ending.TheVariants.{Stopped}
use Rattle.joiner.specs.declared.Joiner.{Joiner}
use Rattle.joiner.specs.Machine.{state, fed, ending_by, found_by, Feeding}

module _ (𝓕 : FieldLaws) where
  -- in so many turns, from a machine, its matrix and its block on, with these bytes left: the machine is fed what it wants of them (fewer only where
  -- they end) until it wants nothing. The texts are put together; the text buffer may be another at each turn. The last two are the machine and the
  -- block at the end
  pub data Run : ℕ → Joiner → List ℕ → List ℕ → List ℕ → List ℕ → Joiner → List ℕ → Type 0 where
    done : {m : Joiner} {elements area left : List ℕ} → wanted m.reader.place ≡ 0 → Run 0 m elements area left [] m area
    turn : {n first later : ℕ} {m next end : Joiner} {elements area left out matrix area' last text block : List ℕ} → (wanted m.reader.place ≡ 0 → ⊥)
        → Feeding 𝓕 m (take (wanted m.reader.place) left) elements area out (Ok (fed next first later)) matrix area' last
        → Run n next matrix area' (drop (wanted m.reader.place) left) text end block
        → Run (suc n) m elements area left (take (first + later) last ++ text) end block

-- how it ends, and the data at the front of the block
pub record Close : Type 0 where
  pub ending : Ending
  pub found : List ℕ

-- the same for a stream that is known whole: what recovery answers at its end record decides
unfoldable pub close_from : FieldLaws → Joining → List ℕ → Stream → Close
close_from 𝓕 j elements (piece g full later) = close_from 𝓕 (joined_after 𝓕 j elements g full) (elements_after 𝓕 j elements g full) later
close_from 𝓕 j elements end = record { ending = ending_by (state j elements) (Ok record·.End); found = found_by (state j elements) (Ok record·.End) }
close_from 𝓕 j elements (stop e at) = record { ending = Stopped; found = [] }

unfoldable pub close_of : FieldLaws → List ℕ → Close
close_of 𝓕 input = close_from 𝓕 nothing (replicate matrix_length 0) (stream_of input)
