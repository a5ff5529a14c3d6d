-- A test that antt computes over a whole table holds at each entry. Two such tests: a table that rises by one function, and any test of an
-- entry and its place.
-- Assumes nothing.
use mathlib.Core.Path.{◌≡◌, refl, sym, ap, ◌∙◌, subst}
use mathlib.Core.Bool.{Bool, true, false}
use mathlib.Core.List.{List, [], ◌∷◌}
use Prim.Native.Nat.{ℕ, zero, suc, ◌+◌, ◌<◌}
use native.Mathlib.Nat.{add-zero, zero-add, add-suc, suc-add, le_of_suc-le-suc, not-suc-le-zero}
use lib.Dec.{T, eqb, eqb→eq}
use lib.ListN.{length, get_or}

abbrev pub both : Bool → Bool → Bool
both true b = b
both false b = false

pub both_left : (a b : Bool) → T (both a b) → T a
both_left true b t = tt
both_left false b t = t

pub both_right : (a b : Bool) → T (both a b) → T b
both_right true b t = t
both_right false b t = absurd t

-- the test f passes at each entry of the list and its place, counted from i
abbrev pub every : (ℕ → ℕ → Bool) → ℕ → List ℕ → Bool
every f i [] = true
every f i (x ∷ xs) = both (f i x) (every f (suc i) xs)

from : (f : ℕ → ℕ → Bool) (xs : List ℕ) (i : ℕ) → T (every f i xs) → (k : ℕ) → k < length xs → T (f (i + k) (get_or xs k 0))
from f [] i t k h = absurd (not-suc-le-zero h)
from f (x ∷ xs) i t zero h = subst (λ (m : ℕ). T (f m x)) (sym (add-zero i)) (both_left (f i x) (every f (suc i) xs) t)
from f (x ∷ xs) i t (suc k) h =
    subst (λ (m : ℕ). T (f m (get_or xs k 0))) (suc-add i k ∙ sym (add-suc i k))
    (from f xs (suc i) (both_right (f i x) (every f (suc i) xs) t) k (le_of_suc-le-suc h))

pub at : (f : ℕ → ℕ → Bool) (xs : List ℕ) → T (every f 0 xs) → (k : ℕ) → k < length xs → T (f k (get_or xs k 0))
at f xs t k h = subst (λ (m : ℕ). T (f m (get_or xs k 0))) (zero-add k) (from f xs 0 t k h)

-- the first entry is x, and each next one f of the one before
abbrev pub rising : (ℕ → ℕ) → ℕ → List ℕ → Bool
rising f x [] = true
rising f x (e ∷ es) = both (eqb e x) (rising f (f e) es)

-- a table that rises as a sequence does is its beginning
module _ (f sequence : ℕ → ℕ) (step : (n : ℕ) → sequence (suc n) ≡ f (sequence n)) where
  rises : (es : List ℕ) (x j : ℕ) → T (rising f x es) → x ≡ sequence j → (k : ℕ) → k < length es → get_or es k 0 ≡ sequence (k + j)
  rises [] x j t q k h = absurd (not-suc-le-zero h)
  rises (e ∷ es) x j t q zero h = eqb→eq e x (both_left (eqb e x) (rising f (f e) es) t) ∙ q ∙ ap sequence (sym (zero-add j))
  rises (e ∷ es) x j t q (suc k) h =
      rises es (f e) (suc j) (both_right (eqb e x) (rising f (f e) es) t)
      (ap f (eqb→eq e x (both_left (eqb e x) (rising f (f e) es) t) ∙ q) ∙ sym (step j)) k (le_of_suc-le-suc h)
      ∙ ap sequence (add-suc k j ∙ sym (suc-add k j))

  pub rising_at : (es : List ℕ) → T (rising f (sequence 0) es) → (k : ℕ) → k < length es → get_or es k 0 ≡ sequence k
  rising_at es t k h = rises es (sequence 0) 0 t refl k h ∙ ap sequence (add-zero k)
