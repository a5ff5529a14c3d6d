-- The purpose of the listing is about something: the paper's five pieces leave no other block, and the first four of them leave one; and there is a
-- run that hands over the data of the five. And the sentence needs the limit of pieces taken: past it pieces that leave no other block do not rebuild the data.
use Rattle.std.specs.Prelude.{◌≡◌, List, [], ◌∷◌, ◌++◌, reverse, ℕ, take, replicate}
use Rattle.gf256.proofs.Known.{fips}
use Rattle.linear.specs.Blocks.{Unique}
use Rattle.stream.specs.declared.Geometry.TheVariants.{Of3By2}
use Rattle.decoder.specs.Records.{taken_limit}
use Rattle.listing.specs.Lines.{header_line, end_line}
use Rattle.listing.specs.Listing.{matrix_length, block_room, listing_of}
use Rattle.joiner.specs.declared.Ending.TheVariants.{Rebuilt}
use Rattle.joiner.specs.declared.Joiner.{Joiner}
use Rattle.joiner.specs.Machine.{fresh}
use Rattle.joiner.specs.Runs.{Run}
use Rattle.demands.specs.Purpose.{block_of, heard, Sends, sent, piece_lines, repeats_in, Another}
use Rattle.demands.specs.Witness.{four, five}

abbrev pub the_data : List ℕ
the_data = 0x61 ∷ 0x62 ∷ 0x63 ∷ 0x64 ∷ []

-- so many times "`00 00 01 M 00`", and then the five
unfoldable pub after_many : ℕ → List (List ℕ)
after_many n = replicate n (0 ∷ 0 ∷ 1 ∷ 0x81 ∷ 0 ∷ []) ++ reverse five

-- a run over the five, and the data that it leaves
pub record FiveJoined : Type 0 where
  pub turns : ℕ
  pub text : List ℕ
  pub last : Joiner
  pub block : List ℕ
  pub run : Run fips turns fresh (replicate matrix_length 0) (replicate block_room 0) (sent Of3By2 (reverse five) []) text last block
  pub ends : last.ending ≡ Rebuilt 4
  pub handed_over : take 4 block ≡ the_data

pub record PurposeWitness : Type 0 where
  pub sends_five : Sends fips Of3By2 the_data (reverse five) (heard (reverse five))
  pub no_other : Unique fips 3 2 (heard (reverse five)) (block_of Of3By2 the_data)
  pub five_joined : FiveJoined
  pub sends_four : Sends fips Of3By2 the_data (reverse four) (heard (reverse four))
  pub another : Another fips 3 2 (heard (reverse four)) (block_of Of3By2 the_data)
  -- after 65,535 the five come too late: truthful pieces that leave no other block, and a listing that ends with 10
  pub sends_late : Sends fips Of3By2 the_data (after_many taken_limit) (after_many taken_limit)
  pub no_other_in_all : Unique fips 3 2 (after_many taken_limit) (block_of Of3By2 the_data)
  pub another_in_time : Another fips 3 2 (heard (after_many taken_limit)) (block_of Of3By2 the_data)
  pub ends_open : listing_of fips (sent Of3By2 (after_many taken_limit) [])
      ≡ header_line ++ (piece_lines fips Of3By2 (after_many taken_limit) ++ end_line 10 0 (repeats_in fips Of3By2 (after_many taken_limit)))
