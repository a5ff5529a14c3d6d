-- The two numbers of FIPS 197's field.
use Rattle.std.specs.Prelude.{ℕ}

-- x^8 + x^4 + x^3 + x + 1, without its x^8
abbrev pub polynomial : ℕ
polynomial = 0x1b

-- x + 1: its powers are all the nonzero bytes
abbrev pub generator : ℕ
generator = 3
