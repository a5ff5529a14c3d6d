-- The paper's 'Numbers worked by hand', the lines marked P: one table, about the definitions that the contracts cite. P5, P6 and P13 are for
-- every marker; the field is that of FIPS 197.
use Rattle.std.specs.Prelude.{◌≡◌, ◌≢◌, List, [], ◌∷◌, ℕ, ◌-◌, get_or, take}
use Rattle.answers.specs.Number.{number_of}
use Rattle.galois.specs.Gf.{mul, inv}
use Rattle.galois.specs.Quotient.{values_of, inverse_of}
use Rattle.gf256.specs.Fips197.{polynomial}
use Rattle.gf256.proofs.Lists.{powers, logs}
use Rattle.gf256.proofs.Known.{fips}
use Rattle.linear.specs.Buffer.{rows_of}
use Rattle.linear.specs.Pieces.{combine, recode}
use Rattle.block.specs.Padding.{piece_length, padded}
use Rattle.block.specs.Reading.{reading, answer_of, data_length}
use Rattle.demands.specs.Calls.{lines_from_new, buffer_from_new}

-- coefficients 0, 0, 1 and 0, 1, 0, with a payload byte
abbrev pub late : List ℕ
late = 0 ∷ 0 ∷ 1 ∷ 9 ∷ []

abbrev pub middle : List ℕ
middle = 0 ∷ 1 ∷ 0 ∷ 7 ∷ []

-- what recovery answers for a block, and the data it gives
abbrev pub number_read : ℕ → List ℕ → ℕ
number_read M block = number_of (answer_of (reading M block))

abbrev pub data_read : ℕ → List ℕ → List ℕ
data_read M block = take (data_length (reading M block)) block

pub record Worked : Type 0 where
  -- FIPS 197, 4.2
  pub p1 : mul polynomial 0x57 0x83 ≡ 0xc1
  pub p2 : mul polynomial 0x57 0x13 ≡ 0xfe
  pub p3 : mul polynomial 3 255 ≡ 26
  -- the inverse of 1, read at exponent 255; of 2; of 0, none
  pub p4_one : values_of (inverse_of (inv polynomial) 1) ≡ 1 ∷ []
  pub p4_exponent : 255 - get_or logs 1 0 ≡ 255
  pub p4_read : get_or powers 255 0 ≡ 1
  pub p4_two : values_of (inverse_of (inv polynomial) 2) ≡ 141 ∷ []
  pub p4_none : values_of (inverse_of (inv polynomial) 0) ≡ []
  pub p5_length : piece_length 1 5 ≡ 1
  pub p5 : (M b : ℕ) → padded M 5 (b ∷ []) ≡ b ∷ M ∷ 0 ∷ 0 ∷ 0 ∷ []
  pub p6_four : piece_length 4 3 ≡ 2
  pub p6_zero : (M a b c d : ℕ) → padded M 3 (a ∷ b ∷ c ∷ d ∷ []) ≡ a ∷ b ∷ c ∷ d ∷ M ∷ 0 ∷ []
  pub p6_five : piece_length 5 3 ≡ 2
  pub p6_none : (M a b c d e : ℕ) → padded M 3 (a ∷ b ∷ c ∷ d ∷ e ∷ []) ≡ a ∷ b ∷ c ∷ d ∷ e ∷ M ∷ []
  pub p6_six : piece_length 6 3 ≡ 3
  -- answer, rows and taken, call by call
  pub p7 : lines_from_new fips 3 1 (late ∷ late ∷ late ∷ []) ≡ (0 ∷ 1 ∷ 1 ∷ []) ∷ (0 ∷ 2 ∷ 2 ∷ []) ∷ (0 ∷ 1 ∷ 3 ∷ []) ∷ []
  pub p8 : lines_from_new fips 3 1 (late ∷ late ∷ middle ∷ []) ≡ (0 ∷ 1 ∷ 1 ∷ []) ∷ (0 ∷ 2 ∷ 2 ∷ []) ∷ (8 ∷ 2 ∷ 3 ∷ []) ∷ []
  pub p9 : lines_from_new fips 1 1 ((0 ∷ 9 ∷ []) ∷ []) ≡ (8 ∷ 0 ∷ 1 ∷ []) ∷ []
  pub p10 : combine fips 1 (1 ∷ 3 ∷ []) (rows_of 1 2 (1 ∷ 2 ∷ [])) ≡ 7 ∷ []
  pub p11 : recode fips 3 (rows_of 3 2 (1 ∷ 0 ∷ 1 ∷ 0 ∷ 1 ∷ 2 ∷ [])) (2 ∷ 3 ∷ []) ≡ 2 ∷ 3 ∷ 4 ∷ []
  pub p12 : buffer_from_new fips 2 1 ((3 ∷ 1 ∷ 1 ∷ []) ∷ (0 ∷ 1 ∷ 2 ∷ []) ∷ []) ≡ 1 ∷ 0 ∷ 1 ∷ 0 ∷ 1 ∷ 2 ∷ []
  -- recovery's number, and the data where it is 0
  pub p13_first : (M : ℕ) → M ≢ 0 → number_read M (M ∷ 0 ∷ []) ≡ 11
  pub p13_one : (M a : ℕ) → M ≢ 0 → (number_read M (a ∷ M ∷ 0 ∷ []) ≡ 0) × (data_read M (a ∷ M ∷ 0 ∷ []) ≡ a ∷ [])
  pub p13_two : (M a : ℕ) → M ≢ 0 → (number_read M (a ∷ M ∷ M ∷ 0 ∷ []) ≡ 0) × (data_read M (a ∷ M ∷ M ∷ 0 ∷ []) ≡ a ∷ M ∷ [])
  pub p13_absent : (M a : ℕ) → a ≢ M → number_read M (a ∷ a ∷ []) ≡ 11
  pub p13_tail : (M a : ℕ) → a ≢ 0 → a ≢ M → number_read M (a ∷ M ∷ a ∷ []) ≡ 11
