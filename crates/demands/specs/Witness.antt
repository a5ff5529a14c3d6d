-- Demand 3 is about something: the paper's five pieces are truthful for one block, leave a fresh decoder open after four and complete after
-- five; and there is a block that breaks the padding rule.
use Rattle.std.specs.Prelude.{◌≡◌, List, [], ◌∷◌, ℕ}
use Rattle.answers.specs.Number.{number_of}
use Rattle.gf256.proofs.Known.{fips}
use Rattle.linear.specs.Blocks.{Block, Agrees}
use Rattle.linear.specs.Buffer.{flat}
use Rattle.block.specs.Padding.{marker, Breaks, Carries}
use Rattle.decoder.specs.declared.Decoder.{Decoder}
use Rattle.decoder.specs.Answers.{complete_values}
use Rattle.decoder.specs.Entries.{completed, recover_refusal}
use Rattle.demands.specs.Demand3.{Closed}
use Rattle.demands.specs.History.{History}

-- "0x11 bodies `00 00 01 M 00` three times, `00 01 00 63 64`, `01 00 00 61 62`", the last first
abbrev pub four : List (List ℕ)
four = (0 ∷ 1 ∷ 0 ∷ 0x63 ∷ 0x64 ∷ []) ∷ (0 ∷ 0 ∷ 1 ∷ 0x81 ∷ 0 ∷ []) ∷ (0 ∷ 0 ∷ 1 ∷ 0x81 ∷ 0 ∷ []) ∷ (0 ∷ 0 ∷ 1 ∷ 0x81 ∷ 0 ∷ []) ∷ []

abbrev pub five : List (List ℕ)
five = (1 ∷ 0 ∷ 0 ∷ 0x61 ∷ 0x62 ∷ []) ∷ four

abbrev pub the_block : List (List ℕ)
the_block = (0x61 ∷ 0x62 ∷ []) ∷ (0x63 ∷ 0x64 ∷ []) ∷ (0x81 ∷ 0 ∷ []) ∷ []

-- a decoder after such calls
pub record After (pieces : List (List ℕ)) : Type 0 where
  pub decoder : Decoder
  pub elements : List ℕ
  pub history : History fips 3 2 decoder elements pieces

-- three pieces of zeros, each with one 1 among its coefficients: a block with no marker
abbrev pub zeros : List (List ℕ)
zeros = (0 ∷ 0 ∷ 1 ∷ 0 ∷ 0 ∷ []) ∷ (0 ∷ 1 ∷ 0 ∷ 0 ∷ 0 ∷ []) ∷ (1 ∷ 0 ∷ 0 ∷ 0 ∷ 0 ∷ []) ∷ []

abbrev pub zero_block : List (List ℕ)
zero_block = (0 ∷ 0 ∷ []) ∷ (0 ∷ 0 ∷ []) ∷ (0 ∷ 0 ∷ []) ∷ []

pub record Witness : Type 0 where
  pub block : Block 3 2 the_block
  pub agrees : Agrees fips 3 2 five the_block
  pub carries : Carries marker (flat the_block) (0x61 ∷ 0x62 ∷ 0x63 ∷ 0x64 ∷ [])
  pub after_four : After four
  pub still_open : complete_values (completed after_four.decoder) ≡ 0 ∷ []
  pub after_five : After five
  pub closed : Closed after_five.decoder
  pub no_marker : Block 3 2 zero_block
  pub agrees_too : Agrees fips 3 2 zeros zero_block
  pub broken : Breaks marker (flat zero_block)
  pub after_zeros : After zeros
  pub closed_too : Closed after_zeros.decoder
  pub no_data : number_of (recover_refusal marker after_zeros.decoder after_zeros.elements 6) ≡ 11
