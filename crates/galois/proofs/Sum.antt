-- The laws of the sum, which is exclusive or: of all numbers, and against doubles, halves and remainders. A digit times a number is none of it
-- or all of it, which is how the products use the sum.
-- Assumes nothing.
use mathlib.Core.Path.{◌≡◌, refl, sym, ap, ap₂, ◌∙◌, subst}
use Prim.Native.Nat.{ℕ, zero, suc, ◌+◌, ◌*◌, ◌/◌, ◌%◌, ◌^◌, ◌<◌}
use native.Mathlib.Nat.{mod-lt, zero-lt-suc, zero-mul, one-mul, add-zero}
use native.Mathlib.Numerals.{add-one}
use native.Mathlib.Omega.{arith}
use lib.Bits.{differ, xor_step, xor_comm, xor_self, xor_zero_r, xor_lt, xor_shr, xor_mod, xor_block, xor_shifted}
use lib.Arith.{bin_ind}
use lib.Pow.{pow_pos, mod-pow-add}
use Rattle.galois.specs.Gf.{◌⊕◌}

-- ---- the laws of a group, each element its own inverse

pub ⊕_comm : (a b : ℕ) → a ⊕ b ≡ b ⊕ a
⊕_comm = xor_comm

pub ⊕_self : (a : ℕ) → a ⊕ a ≡ 0
⊕_self = xor_self

pub ⊕_zero : (a : ℕ) → a ⊕ 0 ≡ a
⊕_zero = xor_zero_r

pub zero_⊕ : (a : ℕ) → 0 ⊕ a ≡ a
zero_⊕ a = refl

differ_assoc : (x y z : ℕ) → x < 2 → y < 2 → z < 2 → differ (differ x y) z ≡ differ x (differ y z)
differ_assoc zero y z hx hy hz = refl
differ_assoc (suc zero) zero z hx hy hz = refl
differ_assoc (suc zero) (suc zero) zero hx hy hz = refl
differ_assoc (suc zero) (suc zero) (suc zero) hx hy hz = refl
differ_assoc (suc zero) (suc zero) (suc (suc z)) hx hy hz = omega arith
differ_assoc (suc zero) (suc (suc y)) z hx hy hz = omega arith
differ_assoc (suc (suc x)) y z hx hy hz = omega arith

⊕_digits : (x y : ℕ) → x < 2 → y < 2 → x ⊕ y ≡ differ x y
⊕_digits zero y hx hy = refl
⊕_digits (suc zero) zero hx hy = refl
⊕_digits (suc zero) (suc zero) hx hy = refl
⊕_digits (suc zero) (suc (suc y)) hx hy = omega arith
⊕_digits (suc (suc x)) y hx hy = omega arith

⊕_odd : (a b : ℕ) → (a ⊕ b) % 2 ≡ differ (a % 2) (b % 2)
⊕_odd a b = xor_mod a b 1 ∙ ⊕_digits (a % 2) (b % 2) (omega arith) (omega arith)

pub ⊕_half : (a b : ℕ) → (a ⊕ b) / 2 ≡ a / 2 ⊕ b / 2
⊕_half a b = xor_shr a b 1

pub ⊕_assoc : (a b c : ℕ) → a ⊕ b ⊕ c ≡ a ⊕ (b ⊕ c)
⊕_assoc a =
    bin_ind (λ (n : ℕ). (b c : ℕ) → n ⊕ b ⊕ c ≡ n ⊕ (b ⊕ c)) (λ b c. refl)
    (λ n ih b c. xor_step (n ⊕ b) c
    ∙ ap₂ (λ (x y : ℕ). (x ⊕ c / 2) * 2 + differ y (c % 2)) (⊕_half n b) (⊕_odd n b)
    ∙ ap₂ (λ (x y : ℕ). x * 2 + y) (ih (b / 2) (c / 2)) (differ_assoc (n % 2) (b % 2) (c % 2) (omega arith) (omega arith) (omega arith))
    ∙ ap₂ (λ (x y : ℕ). (n / 2 ⊕ x) * 2 + differ (n % 2) y) (sym (⊕_half b c)) (sym (⊕_odd b c))
    ∙ sym (xor_step n (b ⊕ c))) a

pub ⊕_left_comm : (a b c : ℕ) → a ⊕ (b ⊕ c) ≡ b ⊕ (a ⊕ c)
⊕_left_comm a b c = sym (⊕_assoc a b c) ∙ ap (λ (x : ℕ). x ⊕ c) (⊕_comm a b) ∙ ⊕_assoc b a c

-- the two in the middle change places
pub ⊕_middle : (a b c d : ℕ) → a ⊕ b ⊕ (c ⊕ d) ≡ a ⊕ c ⊕ (b ⊕ d)
⊕_middle a b c d = simp (⊕_assoc, ⊕_left_comm b c d)

-- what is added twice is not there
pub ⊕_twice : (a b : ℕ) → a ⊕ b ⊕ b ≡ a
⊕_twice a b = ⊕_assoc a b b ∙ ap (λ (x : ℕ). a ⊕ x) (⊕_self b) ∙ ⊕_zero a

-- two numbers whose sum is zero are equal
pub ⊕_equal : (a b : ℕ) → a ⊕ b ≡ 0 → a ≡ b
⊕_equal a b e = sym (⊕_twice a b) ∙ ap (λ (x : ℕ). x ⊕ b) e ∙ zero_⊕ b

pub digit : (b : ℕ) → b % 2 < 2
digit b = mod-lt b (zero-lt-suc 1)

-- ---- against doubles, halves, remainders and bounds

pub ⊕_lt : (k a b : ℕ) → a < 2 ^ k → b < 2 ^ k → a ⊕ b < 2 ^ k
⊕_lt = xor_lt

pub ⊕_byte : (a b : ℕ) → a < 256 → b < 256 → a ⊕ b < 256
⊕_byte = xor_lt 8

pub ⊕_shr : (a b k : ℕ) → (a ⊕ b) / 2 ^ k ≡ a / 2 ^ k ⊕ b / 2 ^ k
⊕_shr = xor_shr

pub ⊕_mod : (a b k : ℕ) → (a ⊕ b) % 2 ^ k ≡ a % 2 ^ k ⊕ b % 2 ^ k
⊕_mod = xor_mod

pub ⊕_shl : (a b k : ℕ) → (a ⊕ b) * 2 ^ k ≡ a * 2 ^ k ⊕ b * 2 ^ k
⊕_shl a b k =
    sym (add-zero ((a ⊕ b) * 2 ^ k)) ∙ sym (xor_block k a b 0 0 (pow_pos k) (pow_pos k))
    ∙ ap₂ (λ (x y : ℕ). x ⊕ y) (add-zero (a * 2 ^ k)) (add-zero (b * 2 ^ k))

-- what stands below a power of two, put under a multiple of it
pub ⊕_above : (d k r : ℕ) → r < 2 ^ k → d * 2 ^ k ⊕ r ≡ d * 2 ^ k + r
⊕_above = xor_shifted

-- the n + 1 low bits of b, the lowest apart
pub low_bits : (n b : ℕ) → b % 2 ^ suc n ≡ b % 2 ⊕ b / 2 % 2 ^ n * 2
low_bits n b =
    ap (λ (x : ℕ). b % 2 ^ x) (sym (add-one n)) ∙ mod-pow-add b n 1
    ∙ sym (⊕_comm (b % 2) (b / 2 % 2 ^ n * 2) ∙ ⊕_above (b / 2 % 2 ^ n) 1 (b % 2) (digit b))

-- ---- a digit times a number

module _ (f : ℕ → ℕ) (f0 : f 0 ≡ 0) where
  pub digit_through : (d a : ℕ) → d < 2 → f (d * a) ≡ d * f a
  digit_through zero a h = ap f (zero-mul a) ∙ f0 ∙ sym (zero-mul (f a))
  digit_through (suc zero) a h = ap f (one-mul a) ∙ sym (one-mul (f a))
  digit_through (suc (suc d)) a h = omega arith

pub digit_⊕ : (d a b : ℕ) → d < 2 → d * (a ⊕ b) ≡ d * a ⊕ d * b
digit_⊕ zero a b h = simp zero-mul
digit_⊕ (suc zero) a b h = simp one-mul
digit_⊕ (suc (suc d)) a b h = omega arith

-- two digits added, times a number
pub ⊕_digit : (d e a : ℕ) → d < 2 → e < 2 → (d ⊕ e) * a ≡ d * a ⊕ e * a
⊕_digit zero e a hd he = simp zero-mul
⊕_digit (suc zero) zero a hd he = simp (zero-mul, ⊕_zero)
⊕_digit (suc zero) (suc zero) a hd he = sym (⊕_self (1 * a) ∙ sym (zero-mul a))
⊕_digit (suc zero) (suc (suc e)) a hd he = omega arith
⊕_digit (suc (suc d)) e a hd he = omega arith

pub digit_lt : (k d a : ℕ) → d < 2 → a < 2 ^ k → d * a < 2 ^ k
digit_lt k zero a h l = subst (λ (x : ℕ). x < 2 ^ k) (sym (zero-mul a)) (omega (arith, l))
digit_lt k (suc zero) a h l = subst (λ (x : ℕ). x < 2 ^ k) (sym (one-mul a)) l
digit_lt k (suc (suc d)) a h l = omega arith
