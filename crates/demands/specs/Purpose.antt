-- What the listing is for: data that were padded, coded and sent come out at its end, and are handed over, once the pieces leave no other block.
use Rattle.std.specs.Prelude.{◌≡◌, ◌≢◌, ◌⊎◌, List, [], ◌∷◌, ◌++◌, ℕ, ◌+◌, ◌*◌, ◌<◌, eqb, length, get_or, take}
use Rattle.galois.specs.FieldLaws.{FieldLaws}
use Rattle.linear.specs.All.{All, Bytes}
use Rattle.linear.specs.Choice.{pick}
use Rattle.linear.specs.Blocks.{Block, Agrees, Unique}
use Rattle.linear.specs.Buffer.{rows_of}
use Rattle.block.specs.Padding.{marker, filled}
use Rattle.stream.specs.declared.Geometry.{Geometry}
use Rattle.stream.specs.Geometries.{pieces_of, length_of, body_of}
use Rattle.stream.specs.Streams.{records_of}
use Rattle.decoder.specs.Records.{taken_limit}
use Rattle.listing.specs.Lines.{header_line, piece_line, end_line, data_line}
use Rattle.listing.specs.Listing.{listing_of}
use Rattle.joiner.specs.declared.Ending.TheVariants.{Rebuilt, Open}
use Rattle.joiner.specs.Runs.{close_of}
use Rattle.demands.specs.Calls.{lines_from_new}

-- "The block is the data, M, then zeros" to k·L
abbrev pub block_of : Geometry → List ℕ → List (List ℕ)
block_of g bytes = rows_of (length_of g) (pieces_of g) (filled marker (pieces_of g * length_of g) bytes)

-- a decoder that is not complete takes the pieces that come, and once "65,535 pieces were taken already" no other: it answers 23 to the later ones
abbrev pub heard : List (List ℕ) → List (List ℕ)
heard pieces = take taken_limit pieces

-- "nonempty data that fit", and pieces of the geometry's size, of which those that count are "truthful for the padded block"
pub record Sends (𝓕 : FieldLaws) (g : Geometry) (bytes : List ℕ) (pieces counted : List (List ℕ)) : Type 0 where
  pub some : 0 < length bytes
  pub fits : length bytes < pieces_of g * length_of g
  pub data_bytes : Bytes bytes
  pub sizes : All (λ p. length p ≡ body_of g) pieces
  pub piece_bytes : All Bytes pieces
  pub truthful : Agrees 𝓕 (pieces_of g) (length_of g) counted (block_of g bytes)

-- their records, the end record, and whatever stands behind it
abbrev pub sent : Geometry → List (List ℕ) → List ℕ → List ℕ
sent g pieces behind = records_of g pieces ++ 0x01 ∷ behind

-- "a line a piece: ordinal, answer, rows and taken after it", from this ordinal on; answer, rows and taken stand in a list
unfoldable pub numbered : ℕ → List (List ℕ) → List ℕ
numbered n [] = []
numbered n (line ∷ later) = piece_line n (get_or line 0 0) (get_or line 1 0) (get_or line 2 0) ++ numbered (n + 1) later

-- "Repeats is the number of answers 8"
unfoldable pub eights : List (List ℕ) → ℕ
eights [] = 0
eights (line ∷ later) = pick (eqb (get_or line 0 0) 8) 1 0 + eights later

-- the lines and the repeats of the pieces, as a fresh decoder of the geometry answers to them
module _ (𝓕 : FieldLaws) (g : Geometry) where
  unfoldable pub piece_lines : List (List ℕ) → List ℕ
  piece_lines pieces = numbered 1 (lines_from_new 𝓕 (pieces_of g) (length_of g) pieces)

  unfoldable pub repeats_in : List (List ℕ) → ℕ
  repeats_in pieces = eights (lines_from_new 𝓕 (pieces_of g) (length_of g) pieces)

-- "another block is left": it has the size, and agrees with the pieces too
pub record Another (𝓕 : FieldLaws) (k L : ℕ) (pieces block : List (List ℕ)) : Type 0 where
  pub other : List (List ℕ)
  pub is_block : Block k L other
  pub agrees : Agrees 𝓕 k L pieces other
  pub differs : other ≢ block

-- "a stream of pieces truthful for the padded block that leave no other block, ended by an end record, has a listing that ends with `end 0`, the
-- length, the repeats and the data in hexadecimal; and where another block is left, with `end 10`". In the first case the data are what is handed over,
-- and in the second nothing is. One of the two is so
pub record Purpose (𝓕 : FieldLaws) (g : Geometry) (bytes : List ℕ) (pieces counted : List (List ℕ)) : Type 0 where
  pub rebuilt : Unique 𝓕 (pieces_of g) (length_of g) counted (block_of g bytes) → (behind : List ℕ)
      → (listing_of 𝓕 (sent g pieces behind) ≡ header_line ++ (piece_lines 𝓕 g pieces ++ (end_line 0 (length bytes) (repeats_in 𝓕 g pieces) ++ data_line bytes)))
      × (close_of 𝓕 (sent g pieces behind) ≡ record { ending = Rebuilt (length bytes); found = bytes })
  pub left_open : Another 𝓕 (pieces_of g) (length_of g) counted (block_of g bytes) → (behind : List ℕ)
      → (listing_of 𝓕 (sent g pieces behind) ≡ header_line ++ (piece_lines 𝓕 g pieces ++ end_line 10 0 (repeats_in 𝓕 g pieces)))
      × (close_of 𝓕 (sent g pieces behind) ≡ record { ending = Open; found = [] })
  pub either : Unique 𝓕 (pieces_of g) (length_of g) counted (block_of g bytes) ⊎ Another 𝓕 (pieces_of g) (length_of g) counted (block_of g bytes)
