-- The search for the last marker, and the test for zeros: what they find, and what they find in a list of two parts.
-- Assumes nothing.
use mathlib.Core.Path.{◌≡◌, refl, sym, ap, ◌∙◌}
use mathlib.Core.Logic.{◌≢◌}
use mathlib.Core.Bool.{true, false, ◌&&◌, false≢true}
use mathlib.Core.List.{List, [], ◌∷◌, ◌++◌}
use Rattle.std.specs.Prelude.{Option, None, Some}
use Prim.Native.Nat.{ℕ, zero, suc, ◌+◌, ◌<◌}
use native.Mathlib.Nat.{not-suc-le-zero, le_of_suc-le-suc, zero-add, suc-add}
use native.Mathlib.Decide.{ℕ_discrete, dec_lt}
use native.Mathlib.Omega.{arith}
use lib.Dec.{eqb}
use lib.ListN.{length, get_or, replicate}
use borrow.Author.Tests.{eq-eqb, ne_eqb}
use Rattle.linear.specs.Choice.{pick}
use Rattle.linear.specs.Rows.{all_zero}
use Rattle.block.specs.Padding.{LastMarker}
use Rattle.block.specs.Reading.{later, last_marker}

-- ---- what the search finds

pub data Found (M : ℕ) (xs : List ℕ) : Option ℕ → Type 0 where
  nowhere : ((i : ℕ) → i < length xs → get_or xs i 0 ≢ M) → Found M xs None
  at : {i : ℕ} → LastMarker M xs i → Found M xs (Some i)

pub found : (M : ℕ) (xs : List ℕ) → Found M xs (last_marker M xs)
unfolding last_marker
found M [] = nowhere (λ i h e. not-suc-le-zero h)
found M (x ∷ xs) = go (last_marker M xs) (found M xs)
  where
    behind : ((i : ℕ) → i < length xs → get_or xs i 0 ≢ M) → (j : ℕ) → 0 < j → j < length (x ∷ xs) → get_or (x ∷ xs) j 0 ≢ M
    behind n zero p h e = not-suc-le-zero p
    behind n (suc j) p h e = n j (le_of_suc-le-suc h) e

    after : {i : ℕ} → LastMarker M xs i → (j : ℕ) → suc i < j → j < length (x ∷ xs) → get_or (x ∷ xs) j 0 ≢ M
    after l zero p h e = not-suc-le-zero p
    after l (suc j) p h e = l.last j (le_of_suc-le-suc p) (le_of_suc-le-suc h) e

    neither : ((i : ℕ) → i < length xs → get_or xs i 0 ≢ M) → x ≢ M → (j : ℕ) → j < length (x ∷ xs) → get_or (x ∷ xs) j 0 ≢ M
    neither n d zero h e = d e
    neither n d (suc j) h e = n j (le_of_suc-le-suc h) e

    here : ((i : ℕ) → i < length xs → get_or xs i 0 ≢ M) → Dec (x ≡ M) → Found M (x ∷ xs) (pick (eqb x M) (Some 0) None)
    here n (yes e) = rw (eq-eqb x M e) (at {i = 0} (record { inside = omega arith; here = e; last = behind n }))
    here n (no d) = rw (ne_eqb x M d) (nowhere (neither n d))

    go : (o : Option ℕ) → Found M xs o → Found M (x ∷ xs) (later (pick (eqb x M) (Some 0) None) o)
    go None (nowhere n) = here n (ℕ_discrete x M)
    go (Some i) (at l) = at {i = suc i} (record { inside = omega (arith, l.inside); here = l.here; last = after l })

-- there is one last marker
pub one_last : {M : ℕ} {xs : List ℕ} {i j : ℕ} → LastMarker M xs i → LastMarker M xs j → i ≡ j
one_last {M} {xs} {i} {j} a b = go (dec_lt i j) (dec_lt j i)
  where
    go : Dec (i < j) → Dec (j < i) → i ≡ j
    go (yes h) k = absurd (a.last j h b.inside b.here)
    go (no h) (yes k) = absurd (b.last i k a.inside a.here)
    go (no h) (no k) = omega arith

pub last_at : {M : ℕ} {xs : List ℕ} {i : ℕ} → LastMarker M xs i → last_marker M xs ≡ Some i
last_at {M} {xs} {i} l = go (last_marker M xs) (found M xs)
  where
    go : (o : Option ℕ) → Found M xs o → o ≡ Some i
    go None (nowhere n) = absurd (n i l.inside l.here)
    go (Some j) (at k) = ap Some (one_last k l)

pub last_nowhere : {M : ℕ} (xs : List ℕ) → ((i : ℕ) → i < length xs → get_or xs i 0 ≢ M) → last_marker M xs ≡ None
last_nowhere {M} xs n = go (last_marker M xs) (found M xs)
  where
    go : (o : Option ℕ) → Found M xs o → o ≡ None
    go None f = refl
    go (Some i) (at l) = absurd (n i l.inside l.here)

-- ---- a list of two parts

-- the place of the search in the second part, behind n elements, else that in the first
abbrev pub behind : ℕ → Option ℕ → Option ℕ → Option ℕ
behind n first None = first
behind n first (Some i) = Some (n + i)

pub last_append : (M : ℕ) (xs ys : List ℕ) → last_marker M (xs ++ ys) ≡ behind (length xs) (last_marker M xs) (last_marker M ys)
unfolding last_marker
last_append M [] ys = go (last_marker M ys)
  where
    go : (o : Option ℕ) → o ≡ behind 0 None o
    go None = refl
    go (Some i) = ap Some (sym (zero-add i))
last_append M (x ∷ xs) ys = ap (later (pick (eqb x M) (Some 0) None)) (last_append M xs ys) ∙ go (last_marker M xs) (last_marker M ys)
  where
    go : (a b : Option ℕ) → later (pick (eqb x M) (Some 0) None) (behind (length xs) a b)
        ≡ behind (length (x ∷ xs)) (later (pick (eqb x M) (Some 0) None) a) b
    go a None = refl
    go a (Some i) = ap Some (sym (suc-add (length xs) i))

-- a second part with no marker, as zeros are
pub last_front : (M : ℕ) (xs ys : List ℕ) → last_marker M ys ≡ None → last_marker M (xs ++ ys) ≡ last_marker M xs
last_front M xs ys e = last_append M xs ys ∙ ap (behind (length xs) (last_marker M xs)) e

-- ---- the test for zeros

pub zero_append : (xs ys : List ℕ) → all_zero (xs ++ ys) ≡ (all_zero xs && all_zero ys)
unfolding all_zero
zero_append [] ys = refl
zero_append (zero ∷ xs) ys = zero_append xs ys
zero_append (suc x ∷ xs) ys = refl

pub zero_replicate : (n : ℕ) → all_zero (replicate n 0) ≡ true
unfolding all_zero
zero_replicate zero = refl
zero_replicate (suc n) = zero_replicate n

pub zero_each : (xs : List ℕ) → all_zero xs ≡ true → (j : ℕ) → get_or xs j 0 ≡ 0
unfolding all_zero
zero_each [] e j = refl
zero_each (zero ∷ xs) e zero = refl
zero_each (zero ∷ xs) e (suc j) = zero_each xs e j
zero_each (suc x ∷ xs) e j = absurd (false≢true e)

pub each_zero : (xs : List ℕ) → ((j : ℕ) → get_or xs j 0 ≡ 0) → all_zero xs ≡ true
unfolding all_zero
each_zero [] h = refl
each_zero (zero ∷ xs) h = each_zero xs (λ j. h (suc j))
each_zero (suc x ∷ xs) h = absurd (omega (arith, h 0))

pub some_nonzero : (xs : List ℕ) → all_zero xs ≡ false → (j : ℕ) × (get_or xs j 0 ≢ 0)
unfolding all_zero
some_nonzero [] e = absurd (false≢true (sym e))
some_nonzero (zero ∷ xs) e = let (j, n) = some_nonzero xs e in (suc j, n)
some_nonzero (suc x ∷ xs) e = (0, λ z. omega arith)
