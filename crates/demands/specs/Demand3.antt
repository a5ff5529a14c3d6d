-- Demand 3, and what stands beside it about the counts.
use Rattle.std.specs.Prelude.{◌≡◌, ◌↔◌, List, [], ◌∷◌, ◌++◌, ℕ, ◌*◌, ◌≤◌, length, drop, Result}
use Rattle.answers.specs.Number.{number_of}
use Rattle.answers.specs.declared.RLNCError.{RLNCError}
use Rattle.galois.specs.FieldLaws.{FieldLaws}
use Rattle.linear.specs.Blocks.{Unique}
use Rattle.linear.specs.Buffer.{flat}
use Rattle.block.specs.Padding.{Breaks, Carries}
use Rattle.decoder.specs.declared.Decoder.{Decoder}
use Rattle.decoder.specs.Records.{rows_in, taken_by}
use Rattle.decoder.specs.Answers.{complete_values, recovered_values}
use Rattle.decoder.specs.Entries.{completed, Recovery}

-- the decoder says that it is complete
abbrev pub Closed : Decoder → Type 0
Closed d = complete_values (completed d) ≡ 1 ∷ []

-- "After each call it is complete exactly when no other block of that size agrees with all pieces taken. Recovery, given room, then yields that
-- block's data, or InvalidDecodedDataFormat where the block breaks the padding rule."
pub record Demand3 (𝓕 : FieldLaws) (M k L : ℕ) (d : Decoder) (elements : List ℕ) (pieces block : List (List ℕ)) : Type 0 where
  pub closes : Closed d ↔ Unique 𝓕 k L pieces block
  pub yields : Closed d → {out last bytes : List ℕ} {r : Result ℕ RLNCError} → k * L ≤ length out → Recovery M d elements out r last
      → Carries M (flat block) bytes → (number_of r ≡ 0) × (recovered_values r ≡ length bytes ∷ []) × (last ≡ bytes ++ drop (length bytes) out)
  -- 11 exactly where the block breaks the rule, and then the buffer stays
  pub breaks : Closed d → {out last : List ℕ} {r : Result ℕ RLNCError} → k * L ≤ length out → Recovery M d elements out r last
      → ((number_of r ≡ 11) ↔ Breaks M (flat block)) × (Breaks M (flat block) → last ≡ out)

-- "Taken equals the number of answers 0 and 8 since the decoder was new"; the row count is at most either
pub record Counters (k : ℕ) (d : Decoder) (pieces : List (List ℕ)) : Type 0 where
  pub taken : taken_by d ≡ length pieces
  pub few : rows_in d ≤ k
  pub fewer : rows_in d ≤ taken_by d
