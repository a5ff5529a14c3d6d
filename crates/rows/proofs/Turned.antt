-- A loop that replaces the elements of a list one by one, upwards: at i, the list is the first i of the new one, then the old one's from i on.
-- Its invariant is `Turned i new old now`.
-- Assumes nothing.
use mathlib.Core.Path.{◌≡◌, refl, sym, ap, ◌∙◌, subst}
use mathlib.Core.List.{List, [], ◌∷◌, ◌++◌}
use Prim.Native.Nat.{ℕ, zero, suc, ◌+◌, ◌≤◌, ◌<◌}
use native.Mathlib.Nat.{le_of_suc-le-suc, not-suc-le-zero, suc_inj, suc-ne-zero}
use native.Mathlib.Numerals.{add-one}
use native.Mathlib.Omega.{arith}
use lib.ListN.{length, get_or, take, drop, set, drop_of_length-le, take-append-drop, length-set}
use lib.Seq.{set-get_or}

module _ {A : Type 0} where
  abbrev blend : ℕ → List A → List A → List A
  blend i new old = take i new ++ drop i old

  step : (new old : List A) (i : ℕ) (d : A) → i < length new → i < length old → set (blend i new old) i (get_or new i d) ≡ blend (suc i) new old
  step [] old i d h k = absurd (not-suc-le-zero h)
  step (x ∷ xs) [] i d h k = absurd (not-suc-le-zero k)
  step (x ∷ xs) (y ∷ ys) zero d h k = refl
  step (x ∷ xs) (y ∷ ys) (suc i) d h k = ap (λ (l : List A). x ∷ l) (step xs ys i d (le_of_suc-le-suc h) (le_of_suc-le-suc k))

  read : (new old : List A) (i : ℕ) (d : A) → i < length new → i < length old → get_or (blend i new old) i d ≡ get_or old i d
  read [] old i d h k = absurd (not-suc-le-zero h)
  read (x ∷ xs) [] i d h k = absurd (not-suc-le-zero k)
  read (x ∷ xs) (y ∷ ys) zero d h k = refl
  read (x ∷ xs) (y ∷ ys) (suc i) d h k = read xs ys i d (le_of_suc-le-suc h) (le_of_suc-le-suc k)

  -- a place where both lists have the same element
  stays : (new old : List A) (i k : ℕ) (d : A) → length new ≡ length old → get_or new k d ≡ get_or old k d → get_or (blend i new old) k d ≡ get_or old k d
  stays new old zero k d l e = refl
  stays [] [] (suc i) k d l e = refl
  stays [] (y ∷ ys) (suc i) k d l e = absurd (suc-ne-zero (length ys) (sym l))
  stays (x ∷ xs) [] (suc i) k d l e = absurd (suc-ne-zero (length xs) l)
  stays (x ∷ xs) (y ∷ ys) (suc i) zero d l e = e
  stays (x ∷ xs) (y ∷ ys) (suc i) (suc k) d l e = stays xs ys i k d (suc_inj l) e

  pub record Turned (i : ℕ) (new old now : List A) : Type 0 where
    pub reach : i ≤ length old
    pub even : length new ≡ length old
    pub long : length now ≡ length old
    pub mixed : now ≡ blend i new old

  -- where the loop begins: below its first index the new list is the old one
  pub starts : {new old : List A} (i : ℕ) → i ≤ length old → length new ≡ length old → take i new ≡ take i old → Turned i new old old
  starts {new} {old} i h e f =
      record { reach = h; even = e; long = refl; mixed = sym (ap (λ (l : List A). l ++ drop i old) f ∙ take-append-drop i old) }

  -- where the loop ends: from there on the new list is the old one
  pub ends : {new old now : List A} {i : ℕ} → Turned i new old now → drop i new ≡ drop i old → now ≡ new
  ends {new} {old} {now} {i} t f = t.mixed ∙ ap (λ (l : List A). take i new ++ l) (sym f) ∙ take-append-drop i new

  pub ends_all : {new old now : List A} {i : ℕ} → Turned i new old now → length old ≤ i → now ≡ new
  ends_all {new} {old} {now} {i} t h =
      let k : length new ≤ i = omega (arith, t.even) in
      ends t (drop_of_length-le new k ∙ sym (drop_of_length-le old h))

  -- the element that a turn finds
  pub finds : {new old now : List A} {i : ℕ} (d : A) → Turned i new old now → i < length old → get_or now i d ≡ get_or old i d
  finds {new} {old} {now} {i} d t h = ap (λ (l : List A). get_or l i d) t.mixed ∙ read new old i d (omega (arith, t.even)) h

  -- an element that the loop does not change, done or not
  pub keeps : {new old now : List A} {i : ℕ} (k : ℕ) (d : A) → Turned i new old now → get_or new k d ≡ get_or old k d → get_or now k d ≡ get_or old k d
  keeps {new} {old} {now} {i} k d t e = ap (λ (l : List A). get_or l k d) t.mixed ∙ stays new old i k d t.even e

  -- a turn that stores the new element, and one that leaves an element that the new list has too
  pub turns : {new old now : List A} {i : ℕ} {v : A} (d : A) → Turned i new old now → i < length old → v ≡ get_or new i d
      → Turned (i + 1) new old (set now i v)
  turns {new} {old} {now} {i} {v} d t h f = record {
    reach = omega arith;
    even = t.even;
    long = length-set now i v ∙ t.long;
    mixed =
        ap (λ (l : List A). set l i v) t.mixed ∙ ap (set (blend i new old) i) f ∙ step new old i d (omega (arith, t.even)) h
        ∙ ap (λ (k : ℕ). blend k new old) (sym (add-one i));
  }

  pub skips : {new old now : List A} {i : ℕ} (d : A) → Turned i new old now → i < length old → get_or old i d ≡ get_or new i d → Turned (i + 1) new old now
  skips {new} {old} {now} {i} d t h f =
      subst (Turned (i + 1) new old) (ap (set now i) (sym (finds d t h)) ∙ set-get_or now i d) (turns {v = get_or old i d} d t h f)
