-- The bytes with exclusive or and the product are a commutative ring, whatever the polynomial: each law follows from what `xtime` does.
-- All but the law of one hold of all numbers, since the product reads the 8 low bits of each factor.
-- Assumes nothing.
use mathlib.Core.Path.{◌≡◌, refl, sym, ap, ap₂, ◌∙◌, subst}
use Prim.Native.Nat.{ℕ, zero, suc, ◌*◌, ◌/◌, ◌%◌, ◌^◌, ◌≤◌, ◌<◌}
use native.Mathlib.Nat.{mod-lt, zero-lt-suc, mod-eq_of_lt, div-eq_of_lt, mod-one, mod-mod, le_of_suc-le-suc, le_refl, lt_of_lt_of_le}
use native.Mathlib.Nat as nat
use native.Mathlib.Omega.{arith}
use lib.Pow.{pow_pos, pow_mono}
use Rattle.galois.specs.Gf.{◌⊕◌, xtime, times, mul}
use Rattle.galois.proofs.Sum.{⊕_zero, ⊕_byte, ⊕_shr, ⊕_mod, ⊕_shl, low_bits, ⊕_digit, ⊕_middle, digit, digit_through, digit_⊕, digit_lt}

byte_pos : zero < 256
byte_pos = zero-lt-suc 255

module _ (p : ℕ) where
  -- ---- multiplication by x is linear

  xtime_⊕ : (a b : ℕ) → xtime p (a ⊕ b) ≡ xtime p a ⊕ xtime p b
  unfolding xtime
  xtime_⊕ a b =
      ap₂ (λ (x y : ℕ). x ⊕ y * p) (ap (λ (x : ℕ). x % 256) (⊕_shl a b 1) ∙ ⊕_mod (a * 2) (b * 2) 8)
      (ap (λ (x : ℕ). x % 2) (⊕_shr a b 7) ∙ ⊕_mod (a / 128) (b / 128) 1)
      ∙ ap (λ (x : ℕ). a * 2 % 256 ⊕ b * 2 % 256 ⊕ x) (⊕_digit (a / 128 % 2) (b / 128 % 2) p (digit (a / 128)) (digit (b / 128)))
      ∙ ⊕_middle (a * 2 % 256) (b * 2 % 256) (a / 128 % 2 * p) (b / 128 % 2 * p)

  xtime_zero : xtime p 0 ≡ 0
  unfolding xtime
  xtime_zero = nat.zero-mul p

  -- below 128 it doubles
  xtime_small : (v : ℕ) → v < 128 → xtime p v ≡ v * 2
  unfolding xtime
  xtime_small v h =
      let low : v * 2 < 256 = omega arith in
      ap₂ (λ (x y : ℕ). x ⊕ y % 2 * p) (mod-eq_of_lt low) (div-eq_of_lt h)
      ∙ ap (λ (x : ℕ). v * 2 ⊕ x) (nat.zero-mul p) ∙ ⊕_zero (v * 2)

  xtime_lt : p < 256 → (a : ℕ) → xtime p a < 256
  unfolding xtime
  xtime_lt hp a = ⊕_byte (a * 2 % 256) (a / 128 % 2 * p) (mod-lt (a * 2) byte_pos) (digit_lt 8 (a / 128 % 2) p (digit (a / 128)) hp)

  -- ---- the sum over the bits: its clauses, and its laws in the first factor

  pub times_none : (a b : ℕ) → times p 0 a b ≡ 0
  unfolding times
  times_none a b = refl

  pub times_suc : (n a b : ℕ) → times p (suc n) a b ≡ b % 2 * a ⊕ xtime p (times p n a (b / 2))
  unfolding times
  times_suc n a b = refl

  times_⊕ : (n a c b : ℕ) → times p n (a ⊕ c) b ≡ times p n a b ⊕ times p n c b
  times_⊕ zero a c b = simp times_none
  times_⊕ (suc n) a c b =
      times_suc n (a ⊕ c) b
      ∙ ap₂ (λ (x y : ℕ). x ⊕ y) (digit_⊕ (b % 2) a c (digit b)) (ap (xtime p) (times_⊕ n a c (b / 2)) ∙ xtime_⊕ (times p n a (b / 2)) (times p n c (b / 2)))
      ∙ ⊕_middle (b % 2 * a) (b % 2 * c) (xtime p (times p n a (b / 2))) (xtime p (times p n c (b / 2)))
      ∙ ap₂ (λ (x y : ℕ). x ⊕ y) (sym (times_suc n a b)) (sym (times_suc n c b))

  times_xtime : (n a b : ℕ) → times p n (xtime p a) b ≡ xtime p (times p n a b)
  times_xtime zero a b = times_none (xtime p a) b ∙ sym xtime_zero ∙ ap (xtime p) (sym (times_none a b))
  times_xtime (suc n) a b =
      times_suc n (xtime p a) b
      ∙ ap₂ (λ (x y : ℕ). x ⊕ xtime p y) (sym (digit_through (xtime p) xtime_zero (b % 2) a (digit b))) (times_xtime n a (b / 2))
      ∙ sym (xtime_⊕ (b % 2 * a) (xtime p (times p n a (b / 2))))
      ∙ ap (xtime p) (sym (times_suc n a b))

  times_zero : (n b : ℕ) → times p n 0 b ≡ 0
  times_zero zero b = times_none 0 b
  times_zero (suc n) b =
      times_suc n 0 b ∙ ap₂ (λ (x y : ℕ). x ⊕ y) (nat.mul-zero (b % 2)) (ap (xtime p) (times_zero n (b / 2)) ∙ xtime_zero)

  low_step : (n b : ℕ) → n < 8 → b % 2 ^ suc n ≡ b % 2 ⊕ xtime p (b / 2 % 2 ^ n)
  low_step n b h =
      low_bits n b
      ∙ ap (λ (x : ℕ). b % 2 ⊕ x) (sym (xtime_small (b / 2 % 2 ^ n) (lt_of_lt_of_le (mod-lt (b / 2) (pow_pos n)) (pow_mono {j = 7} (le_of_suc-le-suc h)))))

  times_one : (n b : ℕ) → n ≤ 8 → times p n 1 b ≡ b % 2 ^ n
  times_one zero b h = times_none 1 b ∙ sym (mod-one b)
  times_one (suc n) b h =
      times_suc n 1 b ∙ ap₂ (λ (x y : ℕ). x ⊕ xtime p y) (nat.mul-one (b % 2)) (times_one n (b / 2) (omega arith)) ∙ sym (low_step n b h)

  times_digit : (d b : ℕ) → d < 2 → times p 8 d b ≡ d * (b % 256)
  times_digit d b h =
      ap (λ (x : ℕ). times p 8 x b) (sym (nat.mul-one d)) ∙ digit_through (λ (x : ℕ). times p 8 x b) (times_zero 8 b) d 1 h
      ∙ ap (λ (x : ℕ). d * x) (times_one 8 b (le_refl 8))

  -- the factors change places, bit by bit of the first
  times_swap : (n a b : ℕ) → n ≤ 8 → times p 8 (a % 2 ^ n) b ≡ times p n (b % 256) a
  times_swap zero a b h = ap (λ (x : ℕ). times p 8 x b) (mod-one a) ∙ times_zero 8 b ∙ sym (times_none (b % 256) a)
  times_swap (suc n) a b h =
      ap (λ (x : ℕ). times p 8 x b) (low_step n a h) ∙ times_⊕ 8 (a % 2) (xtime p (a / 2 % 2 ^ n)) b
      ∙ ap₂ (λ (x y : ℕ). x ⊕ y) (times_digit (a % 2) b (digit a))
      (times_xtime 8 (a / 2 % 2 ^ n) b ∙ ap (xtime p) (times_swap n (a / 2) b (omega arith)))
      ∙ sym (times_suc n (b % 256) a)

  pub times_lt : p < 256 → (n a b : ℕ) → a < 256 → times p n a b < 256
  times_lt hp zero a b h = subst (λ (x : ℕ). x < 256) (sym (times_none a b)) byte_pos
  times_lt hp (suc n) a b h =
      subst (λ (x : ℕ). x < 256) (sym (times_suc n a b))
      (⊕_byte (b % 2 * a) (xtime p (times p n a (b / 2))) (digit_lt 8 (b % 2) a (digit b) h) (xtime_lt hp (times p n a (b / 2))))

  -- ---- the product

  pub mul_times : (a b : ℕ) → mul p a b ≡ times p 8 (a % 256) b
  unfolding mul
  mul_times a b = refl

  pub mul_comm : (a b : ℕ) → mul p a b ≡ mul p b a
  unfolding mul
  mul_comm a b = times_swap 8 a b (le_refl 8)

  ⊕_mul : (a b c : ℕ) → mul p (a ⊕ b) c ≡ mul p a c ⊕ mul p b c
  unfolding mul
  ⊕_mul a b c = ap (λ (x : ℕ). times p 8 x c) (⊕_mod a b 8) ∙ times_⊕ 8 (a % 256) (b % 256) c

  pub mul_⊕ : (a b c : ℕ) → mul p a (b ⊕ c) ≡ mul p a b ⊕ mul p a c
  mul_⊕ a b c = mul_comm a (b ⊕ c) ∙ ⊕_mul b c a ∙ ap₂ (λ (x y : ℕ). x ⊕ y) (mul_comm b a) (mul_comm c a)

  -- of a factor the 8 low bits count
  mul_low : (a b : ℕ) → mul p (a % 256) b ≡ mul p a b
  unfolding mul
  mul_low a b = ap (λ (x : ℕ). times p 8 x b) (mod-mod a 256)

  pub mul_one : (a : ℕ) → a < 256 → mul p a 1 ≡ a
  mul_one a h = mul_comm a 1 ∙ mul_times 1 a ∙ times_one 8 a (le_refl 8) ∙ mod-eq_of_lt h

  -- x is 2
  pub mul_two : (a : ℕ) → a < 256 → mul p 2 a ≡ xtime p a
  mul_two a h =
      mul_times 2 a ∙ ap (λ (x : ℕ). times p 8 x a) (sym (xtime_small 1 (omega arith))) ∙ times_xtime 8 1 a
      ∙ ap (xtime p) (times_one 8 a (le_refl 8) ∙ mod-eq_of_lt h)

  pub mul_x : (a : ℕ) → a < 128 → mul p 2 a ≡ a * 2
  mul_x a h = mul_two a (omega arith) ∙ xtime_small a h

  pub zero_mul : (b : ℕ) → mul p 0 b ≡ 0
  unfolding mul
  zero_mul b = times_zero 8 b

  pub mul_zero : (a : ℕ) → mul p a 0 ≡ 0
  mul_zero a = mul_comm a 0 ∙ zero_mul a

  -- ---- what needs a polynomial of degree 8

  module _ (hp : p < 256) where
    pub mul_lt : (a b : ℕ) → mul p a b < 256
    unfolding mul
    mul_lt a b = times_lt hp 8 (a % 256) b (mod-lt a byte_pos)

    xtime_mul : (a b : ℕ) → a < 256 → mul p (xtime p a) b ≡ xtime p (mul p a b)
    unfolding mul
    xtime_mul a b h =
        ap (λ (x : ℕ). times p 8 x b) (mod-eq_of_lt (xtime_lt hp a)) ∙ times_xtime 8 a b
        ∙ ap (λ (x : ℕ). xtime p (times p 8 x b)) (sym (mod-eq_of_lt h))

    mul_xtime : (a b : ℕ) → b < 256 → mul p a (xtime p b) ≡ xtime p (mul p a b)
    mul_xtime a b h = mul_comm a (xtime p b) ∙ xtime_mul b a h ∙ ap (xtime p) (mul_comm b a)

    times_mul : (n a b c : ℕ) → b < 256 → times p n (mul p a b) c ≡ mul p a (times p n b c)
    times_mul zero a b c h = times_none (mul p a b) c ∙ sym (mul_zero a) ∙ ap (mul p a) (sym (times_none b c))
    times_mul (suc n) a b c h =
        times_suc n (mul p a b) c
        ∙ ap₂ (λ (x y : ℕ). x ⊕ y) (sym (digit_through (mul p a) (mul_zero a) (c % 2) b (digit c)))
        (ap (xtime p) (times_mul n a b (c / 2) h) ∙ sym (mul_xtime a (times p n b (c / 2)) (times_lt hp n b (c / 2) h)))
        ∙ sym (mul_⊕ a (c % 2 * b) (xtime p (times p n b (c / 2))))
        ∙ ap (mul p a) (sym (times_suc n b c))

    pub mul_assoc : (a b c : ℕ) → mul p (mul p a b) c ≡ mul p a (mul p b c)
    mul_assoc a b c =
        mul_times (mul p a b) c
        ∙ ap (λ (x : ℕ). times p 8 x c) (mod-eq_of_lt (mul_lt a b) ∙ mul_comm a b ∙ sym (mul_low b a) ∙ mul_comm (b % 256) a)
        ∙ times_mul 8 a (b % 256) c (mod-lt b byte_pos)
        ∙ ap (mul p a) (sym (mul_times b c))
