-- What the program is for: every run of its machine over a stream of truthful pieces, of fewer than 2^64 - 1 bytes, leaves the data themselves where
-- the pieces leave no other block. (From every block area of at least block_room bytes there is such a run, and its text is the listing: `runs` and
-- `prints` of joiner.)
use Rattle.std.specs.Prelude.{◌≡◌, List, ℕ, ◌<◌, length, take, replicate}
use Rattle.galois.specs.FieldLaws.{FieldLaws}
use Rattle.linear.specs.Blocks.{Unique}
use Rattle.stream.specs.declared.Geometry.{Geometry}
use Rattle.stream.specs.Geometries.{pieces_of, length_of}
use Rattle.stream.specs.Streams.{largest}
use Rattle.listing.specs.Listing.{matrix_length}
use Rattle.joiner.specs.declared.Ending.TheVariants.{Rebuilt, Open}
use Rattle.joiner.specs.declared.Joiner.{Joiner}
use Rattle.joiner.specs.Machine.{fresh}
use Rattle.joiner.specs.Runs.{Run}
use Rattle.demands.specs.Purpose.{block_of, sent, Another}

-- every run of the machine over an input of fewer than 2^64 - 1 bytes: from this area, the machine and the block that it leaves are so
abbrev pub EveryRun : FieldLaws → List ℕ → (List ℕ → Joiner → List ℕ → Type 0) → Type 0
EveryRun 𝓕 input leaves =
    length input < largest → (n : ℕ) (area text : List ℕ) (last : Joiner) (block : List ℕ)
    → Run 𝓕 n fresh (replicate matrix_length 0) area input text last block → leaves area last block

-- "`bin/setjoin --data x.set > x.out` with exit status 0: the rebuilt bytes themselves; and status 1 where the set is not complete": after `Rebuilt n`
-- the program writes the first n bytes of the block and reports 0, and after `Open` it writes no data and reports 1
pub record HandsOver (𝓕 : FieldLaws) (g : Geometry) (bytes : List ℕ) (pieces counted : List (List ℕ)) : Type 0 where
  pub rebuilt : Unique 𝓕 (pieces_of g) (length_of g) counted (block_of g bytes) → (behind : List ℕ)
      → EveryRun 𝓕 (sent g pieces behind) (λ area last block. (last.ending ≡ Rebuilt (length bytes)) × (take (length bytes) block ≡ bytes))
  pub left_open : Another 𝓕 (pieces_of g) (length_of g) counted (block_of g bytes) → (behind : List ℕ)
      → EveryRun 𝓕 (sent g pieces behind) (λ area last block. (last.ending ≡ Open) × (block ≡ area))
