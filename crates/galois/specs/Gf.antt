-- The fields of 256 elements, from FIPS 197, section 4. A byte b7 .. b0 is the polynomial b7 x^7 + .. + b1 x + b0 over two elements, and any
-- number is a polynomial likewise. p is the polynomial of degree 8 that products are reduced by, without its x^8: 0x1b for FIPS 197.
use Rattle.std.specs.Prelude.{◌≡◌, ℕ, zero, suc, ◌*◌, ◌/◌, ◌%◌, ◌^◌, ◌<◌}
use Rattle.std.specs.Int.Bits.{bit_xor}

infixl 65 ◌⊕◌
-- 4.1 Addition: the coefficients of like powers are added modulo 2, so that a sum is an exclusive or. A difference is the same.
abbrev pub ◌⊕◌ : ℕ → ℕ → ℕ
a ⊕ b = bit_xor a b

-- 4.2.1 Multiplication by x: each bit moves up one place, and where b7 was set, p is added for the x^8 that fell out.
unfoldable pub xtime : ℕ → ℕ → ℕ
xtime p a = (a * 2 % 256) ⊕ (a / 128 % 2 * p)

-- the sum of b_i · x^i · a over the n low bits b_i of b, reduced step by step
unfoldable pub times : ℕ → ℕ → ℕ → ℕ → ℕ
times p zero a b = 0
times p (suc n) a b = (b % 2 * a) ⊕ xtime p (times p n a (b / 2))

-- 4.2 Multiplication of the bytes a and b. Of larger numbers the 8 low bits count.
unfoldable pub mul : ℕ → ℕ → ℕ → ℕ
mul p a b = times p 8 (a % 256) b

-- a to the power n
unfoldable pub pow : ℕ → ℕ → ℕ → ℕ
pow p a zero = 1
pow p a (suc n) = mul p a (pow p a n)

-- The inverse of a nonzero byte, as its 254th power (4.4 in the edition of 2023).
unfoldable pub inv : ℕ → ℕ → ℕ
inv p a = pow p a 254

-- The document's own words for the two, which `mul` and `inv` are proved to meet, and nothing else (proofs/Remainder, proofs/Generator).

-- 4.2: the polynomial product of a and b, b of n bits: the sum of b_i · x^i · a, not reduced
unfoldable pub product : ℕ → ℕ → ℕ → ℕ
product zero a b = 0
product (suc n) a b = (b % 2 * a) ⊕ (product n a (b / 2) * 2)

-- 4.2: r is c modulo m, of degree 8: a polynomial of degree less than 8 that differs from c by a multiple of m
pub record Remainder (m c r : ℕ) : Type 0 where
  pub byte : r < 256
  pub bits : ℕ
  pub quotient : ℕ
  pub fits : quotient < 2 ^ bits
  pub sum : c ≡ product bits m quotient ⊕ r

-- 4.2: b is the multiplicative inverse of a
pub record Inverse (p a b : ℕ) : Type 0 where
  pub byte : b < 256
  pub one : mul p a b ≡ 1
