-- The decimal digits of a number: those of its tenth, then one more; never more than 20.
-- Assumes nothing.
use mathlib.Core.Path.{◌≡◌, refl, sym, ap, ◌∙◌}
use mathlib.Core.List.{List, [], ◌∷◌, ◌++◌}
use Prim.Native.Nat.{ℕ, zero, suc, ◌+◌, ◌/◌, ◌%◌, ◌^◌, ◌≤◌, ◌<◌}
use native.Mathlib.Nat.{mod-eq_of_lt, div-eq_of_lt}
use native.Mathlib.Omega.{arith}
use borrow.Author.Tests.{lt-ltb}
use lib.ListN.{length, length-append}
use Rattle.std.specs.Prelude.{decimal as std·decimal}
use Rattle.std.proofs.lemmas.Fmt.{AppendsLastDigit, decimal_digit, decimal_from_appends, decimal_step, length-decimal-le}
use Rattle.linear.specs.Choice.{if_zero}
use Rattle.listing.specs.Text.{digit, decimal_by, decimal}

-- ours of one digit more at each step
by : ℕ → ℕ → List ℕ
by zero n = []
by (suc k) n = decimal_by k n

second : (m : ℕ) (a b : List ℕ) → 0 < m → if_zero m a b ≡ b
second zero a b h = absurd (omega arith)
second (suc m) a b h = refl

appends : AppendsLastDigit by
unfolding by decimal_by
appends = record { one = one; more = more }
  where
    one : (k n : ℕ) → n < 10 → by (suc k) n ≡ (48 + n) ∷ []
    one zero n h = grind (arith, mod-eq_of_lt h, lt-ltb n 10 h)
    one (suc k) n h = grind (arith, div-eq_of_lt h, lt-ltb n 10 h)

    more : (k n : ℕ) → 10 ≤ n → by (suc k) n ≡ by k (n / 10) ++ ((48 + n % 10) ∷ [])
    more zero n h = grind (arith, lt-ltb (n % 10) 10 (omega arith))
    more (suc k) n h = second (n / 10) _ _ (omega arith) ∙ grind (arith, lt-ltb (n % 10) 10 (omega arith))

-- it is what std prints
pub printed : (n : ℕ) → n < 2 ^ 64 → decimal n ≡ std·decimal n
unfolding decimal by
printed n h = decimal_from_appends by appends 20 n h (length-decimal-le 20 n (omega arith) (omega arith) h)

short_front : (m : ℕ) (a b : List ℕ) (most : ℕ) → length a ≤ most → length b ≤ most → length (if_zero m a b) ≤ most
short_front zero a b most h k = h
short_front (suc m) a b most h k = k

short : (f n : ℕ) → length (decimal_by f n) ≤ suc f
unfolding decimal_by
short zero n = omega arith
short (suc f) n =
    short_front (n / 10) _ _ (suc (suc f)) (omega arith)
    (omega (arith, short f (n / 10), length-append (decimal_by f (n / 10)) (digit (n % 10) ∷ [])))

pub decimal_short : (n : ℕ) → length (decimal n) ≤ 20
unfolding decimal
decimal_short n = short 19 n

-- one digit; and those of the tenth, then one more
pub decimal_one : (n : ℕ) → n < 10 → decimal n ≡ digit n ∷ []
decimal_one n h = printed n (omega arith) ∙ decimal_digit n h ∙ rw (lt-ltb n 10 h) refl

pub decimal_more : (n : ℕ) → 10 ≤ n → n < 2 ^ 64 → decimal n ≡ decimal (n / 10) ++ (digit (n % 10) ∷ [])
decimal_more n h fits =
    rw (lt-ltb (n % 10) 10 (omega arith))
    (printed n fits ∙ decimal_step n h fits ∙ ap (λ (l : List ℕ). l ++ ((48 + n % 10) ∷ [])) (sym (printed (n / 10) (omega arith))))

pub decimal_room : (n : ℕ) → 10 ≤ n → n < 2 ^ 64 → length (decimal (n / 10)) < 20
decimal_room n h fits =
    omega (arith, decimal_short n, ap length (decimal_more n h fits), length-append (decimal (n / 10)) (digit (n % 10) ∷ []))
