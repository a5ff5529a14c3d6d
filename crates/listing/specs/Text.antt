-- Numbers and bytes as text, in ASCII.
use Rattle.std.specs.Prelude.{List, [], ◌∷◌, ◌++◌, ℕ, zero, suc, ◌+◌, ◌/◌, ◌%◌, ltb}
use Rattle.linear.specs.Choice.{pick, if_zero}

-- a digit below 16: '0' to '9', then 'a' to 'f'
abbrev pub digit : ℕ → ℕ
digit d = pick (ltb d 10) (48 + d) (87 + d)

-- the decimal digits of a number of at most `fuel` digits and one more, the highest first
unfoldable pub decimal_by : ℕ → ℕ → List ℕ
decimal_by zero n = digit (n % 10) ∷ []
decimal_by (suc fuel) n = if_zero (n / 10) (digit n ∷ []) (decimal_by fuel (n / 10) ++ (digit (n % 10) ∷ []))

-- a number of a machine, which has at most 20 digits
unfoldable pub decimal : ℕ → List ℕ
decimal n = decimal_by 19 n

-- two lower-case hexadecimal digits for each byte
unfoldable pub hex : List ℕ → List ℕ
hex [] = []
hex (b ∷ bytes) = digit (b / 16) ∷ digit (b % 16) ∷ hex bytes
