-- The product of two bytes is the remainder of their polynomial product by x^8 + p: doubling and putting p back for x^8 adds a multiple of
-- x^8 + p at each step. No other byte is: a multiple of x^8 + p that is not zero has a degree of 8 or more.
-- Assumes nothing.
use mathlib.Core.Path.{◌≡◌, refl, sym, ap, ap₂, ◌∙◌, subst}
use mathlib.Core.Logic.{◌⊎◌, inl, inr, ◌↔◌}
use Prim.Native.Nat.{ℕ, zero, suc, ◌+◌, ◌*◌, ◌/◌, ◌%◌, ◌^◌, ◌≤◌, ◌<◌}
use native.Mathlib.Nat.{mod-lt, mod-eq_of_lt, div-eq_of_lt, zero-mul, one-mul, eq-zero-or-pos, div-lt_iff_lt-mul, zero-lt-suc, pow-suc, add_comm, suc-add}
use native.Mathlib.Omega.{arith}
use lib.Arith.{digits_div, digits_mod, digits_lt}
use lib.Pow.{pow_mono}
use Rattle.galois.specs.Gf.{◌⊕◌, xtime, times, mul, product, Remainder}
use Rattle.galois.proofs.Sum.{⊕_assoc, ⊕_comm, ⊕_self, ⊕_zero, ⊕_lt, ⊕_byte, ⊕_shr, ⊕_mod, ⊕_shl, ⊕_above, ⊕_middle, ⊕_left_comm, ⊕_equal, ⊕_digit, digit, digit_⊕, digit_lt}
use Rattle.galois.proofs.Mul.{times_none, times_suc, times_lt, mul_lt, mul_times}

product_none : (a b : ℕ) → product 0 a b ≡ 0
unfolding product
product_none a b = refl

product_suc : (n a b : ℕ) → product (suc n) a b ≡ b % 2 * a ⊕ product n a (b / 2) * 2
unfolding product
product_suc n a b = refl

product_zero : (n m : ℕ) → product n m 0 ≡ 0
product_zero zero m = product_none m 0
product_zero (suc n) m = product_suc n m 0 ∙ ap₂ (λ (x y : ℕ). x ⊕ y * 2) (zero-mul m) (product_zero n m)

product_⊕ : (n m a b : ℕ) → product n m (a ⊕ b) ≡ product n m a ⊕ product n m b
product_⊕ zero m a b = simp product_none
product_⊕ (suc n) m a b =
    product_suc n m (a ⊕ b)
    ∙ ap₂ (λ (x y : ℕ). x * m ⊕ product n m y * 2) (⊕_mod a b 1) (⊕_shr a b 1)
    ∙ ap₂ (λ (x y : ℕ). x ⊕ y) (⊕_digit (a % 2) (b % 2) m (digit a) (digit b))
    (ap (λ (x : ℕ). x * 2) (product_⊕ n m (a / 2) (b / 2)) ∙ ⊕_shl (product n m (a / 2)) (product n m (b / 2)) 1)
    ∙ ⊕_middle (a % 2 * m) (b % 2 * m) (product n m (a / 2) * 2) (product n m (b / 2) * 2)
    ∙ ap₂ (λ (x y : ℕ). x ⊕ y) (sym (product_suc n m a)) (sym (product_suc n m b))

half_lt : (n b : ℕ) → b < 2 ^ suc n → b / 2 < 2 ^ n
half_lt n b h = (div-lt_iff_lt-mul (zero-lt-suc 1)).1 (subst (λ (x : ℕ). b < x) (pow-suc 2 n) h)

-- bits of b that are not there add nothing
product_more : (n k m b : ℕ) → b < 2 ^ n → product (n + k) m b ≡ product n m b
product_more zero k m b h =
    ap (product (zero + k) m) none ∙ product_zero (zero + k) m ∙ sym (product_none m b)
  where
    none : b ≡ 0
    none = omega arith
product_more (suc n) k m b h =
    ap (λ (i : ℕ). product i m b) (suc-add n k) ∙ product_suc (n + k) m b
    ∙ ap (λ (x : ℕ). b % 2 * m ⊕ x * 2) (product_more n k m (b / 2) (half_lt n b h)) ∙ sym (product_suc n m b)

cross : (u r v s : ℕ) → u ⊕ r ≡ v ⊕ s → u ⊕ v ≡ r ⊕ s
cross u r v s e =
    sym (⊕_zero (u ⊕ v)) ∙ ap (λ (x : ℕ). u ⊕ v ⊕ x) (sym (⊕_self r)) ∙ sym (⊕_middle u r v r) ∙ ap (λ (x : ℕ). x ⊕ (v ⊕ r)) e
    ∙ ⊕_middle v s v r ∙ ap (λ (x : ℕ). x ⊕ (s ⊕ r)) (⊕_self v) ∙ ⊕_comm s r

module _ (p : ℕ) (hp : p < 256) where
  -- twice a byte, less its x^8 times the polynomial, is `xtime` of it
  double : (t : ℕ) → t < 256 → t * 2 ≡ t / 128 * (256 + p) ⊕ xtime p t
  unfolding xtime
  double t h =
      sym (⊕_above (t / 128) 8 (t * 2 % 256) (mod-lt (t * 2) (zero-lt-suc 255)) ∙ digits)
      ∙ ap (λ (x : ℕ). t / 128 * 256 ⊕ x)
      (sym (⊕_zero (t * 2 % 256)) ∙ ap (λ (x : ℕ). t * 2 % 256 ⊕ x) (sym (⊕_self (t / 128 * p))) ∙ ⊕_left_comm (t * 2 % 256) (t / 128 * p) (t / 128 * p))
      ∙ sym (⊕_assoc (t / 128 * 256) (t / 128 * p) (t * 2 % 256 ⊕ t / 128 * p))
      ∙ ap₂ (λ (x y : ℕ). x ⊕ (t * 2 % 256 ⊕ y * p))
      (sym (digit_⊕ (t / 128) 256 p (omega arith)) ∙ ap (λ (x : ℕ). t / 128 * x) (⊕_above 1 8 p hp))
      (sym (mod-eq_of_lt {m = 2} (omega arith)))
    where
      digits : t / 128 * 256 + t * 2 % 256 ≡ t * 2
      digits = omega arith

  order : (u v w x : ℕ) → u ⊕ (v ⊕ (w ⊕ x)) ≡ w ⊕ v ⊕ (u ⊕ x)
  order u v w x = simp (⊕_assoc, ⊕_comm, ⊕_left_comm)

  -- the quotient, bit by bit
  divided : (n a b : ℕ) → a < 256 → (q : ℕ) × (q < 2 ^ n) × (product n a b ≡ product n (256 + p) q ⊕ times p n a b)
  divided zero a b h =
      (0, omega arith, product_none a b ∙ ap₂ (λ (x y : ℕ). x ⊕ y) (sym (product_none (256 + p) 0)) (sym (times_none p a b)))
  divided (suc n) a b h = next (divided n a (b / 2) h)
    where
      next : (q : ℕ) × (q < 2 ^ n) × (product n a (b / 2) ≡ product n (256 + p) q ⊕ times p n a (b / 2))
          → (q : ℕ) × (q < 2 ^ suc n) × (product (suc n) a b ≡ product (suc n) (256 + p) q ⊕ times p (suc n) a b)
      next (q, l, e) =
          let d : ℕ = times p n a (b / 2) / 128 in
          let small : times p n a (b / 2) < 256 = times_lt p hp n a (b / 2) h in
          let bit : d < 2 = omega arith in (
            q * 2 + d,
            subst (λ (x : ℕ). q * 2 + d < x) (sym (pow-suc 2 n)) (digits_lt l bit),
            product_suc n a b
                ∙ ap (λ (x : ℕ). b % 2 * a ⊕ x)
                (ap (λ (x : ℕ). x * 2) e ∙ ⊕_shl (product n (256 + p) q) (times p n a (b / 2)) 1
                ∙ ap (λ (x : ℕ). product n (256 + p) q * 2 ⊕ x) (double (times p n a (b / 2)) small))
                ∙ order (b % 2 * a) (product n (256 + p) q * 2) (d * (256 + p)) (xtime p (times p n a (b / 2)))
                ∙ ap₂ (λ (x y : ℕ). x ⊕ y)
                (ap₂ (λ (x y : ℕ). x * (256 + p) ⊕ product n (256 + p) y * 2) (sym (digits_mod q bit)) (sym (digits_div q bit)) ∙ sym (product_suc n (256 + p) (q * 2 + d)))
                (sym (times_suc p n a b)),
          )

  pub remainder : (a b : ℕ) → a < 256 → Remainder (256 + p) (product 8 a b) (mul p a b)
  remainder a b h =
      let (q, l, e) = divided 8 a b h in
      record {
        byte = mul_lt p hp a b;
        bits = 8;
        quotient = q;
        fits = l;
        sum = e ∙ ap (λ (x : ℕ). product 8 (256 + p) q ⊕ x) (ap (λ (x : ℕ). times p 8 x b) (sym (mod-eq_of_lt h)) ∙ sym (mul_times p a b));
      }

  -- ---- no other byte is

  -- a multiple of the polynomial, but nothing, has a degree of 8 or more
  high : (n s : ℕ) → 0 < s → s < 2 ^ n → 256 ≤ product n (256 + p) s
  high zero s h l = omega arith
  high (suc n) s h l = subst (λ (x : ℕ). 256 ≤ x) (sym (product_suc n (256 + p) s)) (go (λ k. high n (s / 2) k (half_lt n s l)) (eq-zero-or-pos (s / 2)))
    where
      low : s % 2 * (256 + p) < 512
      low = digit_lt 9 (s % 2) (256 + p) (digit s) (omega arith)

      go : (0 < s / 2 → 256 ≤ product n (256 + p) (s / 2)) → (s / 2 ≡ 0) ⊎ (0 < s / 2) → 256 ≤ s % 2 * (256 + p) ⊕ product n (256 + p) (s / 2) * 2
      go ih (inl z) =
          subst (λ (x : ℕ). 256 ≤ x)
          (sym (ap₂ (λ (x y : ℕ). x * (256 + p) ⊕ product n (256 + p) y * 2) one z
          ∙ ap₂ (λ (x y : ℕ). x ⊕ y * 2) (one-mul (256 + p)) (product_zero n (256 + p)) ∙ ⊕_zero (256 + p)))
          (omega arith)
        where
          one : s % 2 ≡ 1
          one = omega arith
      go ih (inr k) =
          let up : 256 ≤ product n (256 + p) (s / 2) = ih k in
          let e : (s % 2 * (256 + p) ⊕ product n (256 + p) (s / 2) * 2) / 512 ≡ product n (256 + p) (s / 2) * 2 / 512 =
          ⊕_shr (s % 2 * (256 + p)) (product n (256 + p) (s / 2) * 2) 9
          ∙ ap (λ (x : ℕ). x ⊕ product n (256 + p) (s / 2) * 2 / 512) (div-eq_of_lt low) in
          omega arith

  -- a quotient of few bits, in more
  module _ (c r : ℕ) (x : Remainder (256 + p) c r) (n : ℕ) where
    widened : x.quotient < 2 ^ (x.bits + n)
    widened = omega (arith, x.fits, pow_mono {i = x.bits} {j = x.bits + n} (omega arith))

    wide_sum : c ≡ product (x.bits + n) (256 + p) x.quotient ⊕ r
    wide_sum = x.sum ∙ ap (λ (y : ℕ). y ⊕ r) (sym (product_more x.bits n (256 + p) x.quotient x.fits))

  pub remainder_unique : (c r s : ℕ) → Remainder (256 + p) c r → Remainder (256 + p) c s → r ≡ s
  remainder_unique c r s x y = ⊕_equal r s (sym across ∙ go (eq-zero-or-pos q))
    where
      n : ℕ
      n = x.bits + y.bits

      q : ℕ
      q = x.quotient ⊕ y.quotient

      turn : y.bits + x.bits ≡ n
      turn = add_comm y.bits x.bits

      q_lt : q < 2 ^ n
      q_lt =
          ⊕_lt n x.quotient y.quotient (widened c r x y.bits)
          (subst (λ (i : ℕ). y.quotient < 2 ^ i) turn (widened c s y x.bits))

      across : product n (256 + p) q ≡ r ⊕ s
      across =
          product_⊕ n (256 + p) x.quotient y.quotient
          ∙ cross (product n (256 + p) x.quotient) r (product n (256 + p) y.quotient) s
          (sym (wide_sum c r x y.bits) ∙ subst (λ (i : ℕ). c ≡ product i (256 + p) y.quotient ⊕ s) turn (wide_sum c s y x.bits))

      go : (q ≡ 0) ⊎ (0 < q) → product n (256 + p) q ≡ 0
      go (inl z) = ap (product n (256 + p)) z ∙ product_zero n (256 + p)
      go (inr h) =
          let big : 256 ≤ product n (256 + p) q = high n q h q_lt in
          let byte : r ⊕ s < 256 = ⊕_byte r s x.byte y.byte in
          absurd (omega (arith, across))

  -- the product is the one remainder
  pub remainder_exactly : (a b r : ℕ) → a < 256 → Remainder (256 + p) (product 8 a b) r ↔ (r ≡ mul p a b)
  remainder_exactly a b r h =
      (λ x. remainder_unique (product 8 a b) r (mul p a b) x (remainder a b h), λ e. subst (Remainder (256 + p) (product 8 a b)) (sym e) (remainder a b h))
