-- Rule 3 keeps a row or drops it by its first k entries alone, row by row: it drops some exactly if the rows become fewer.
-- Assumes nothing.
use mathlib.Core.Path.{◌≡◌, refl, sym, ap, ◌∙◌}
use mathlib.Core.Bool.{Bool, true, false, true≢false}
use mathlib.Core.List.{List, [], ◌∷◌, ◌++◌}
use Prim.Native.Nat.{ℕ, zero, suc, ◌≤◌, ◌<◌}
use native.Mathlib.Nat.{not-suc-le-zero}
use native.Mathlib.Omega.{arith}
use lib.ListN.{length, get_or, take}
use Rattle.linear.specs.Choice.{pick}
use Rattle.linear.specs.Rows.{all_zero, drop_empty}
use Rattle.linear.specs.Engine.{Empty}

pub empty_true : (k : ℕ) (r : List ℕ) → Empty k r → all_zero (take k r) ≡ true
unfolding all_zero
empty_true zero r h = refl
empty_true (suc k) [] h = refl
empty_true (suc k) (x ∷ xs) h = rw (h 0 (omega arith)) (empty_true k xs (λ c g. h (suc c) (omega arith)))

pub true_empty : (k : ℕ) (r : List ℕ) → all_zero (take k r) ≡ true → Empty k r
unfolding all_zero
true_empty zero r e c g = absurd (not-suc-le-zero g)
true_empty (suc k) [] e c g = refl
true_empty (suc k) (zero ∷ xs) e zero g = refl
true_empty (suc k) (zero ∷ xs) e (suc c) g = true_empty k xs e c (omega arith)
true_empty (suc k) (suc x ∷ xs) e c g = let z : ◌≡◌ {A = ℕ} 0 1 = cc in absurd (omega arith)

pub drop_empty_cases : (P : List (List ℕ) → Type 0) (k : ℕ) (r : List ℕ) (rs : List (List ℕ))
    → (Empty k r → P (drop_empty k rs)) → (¬ Empty k r → P (r ∷ drop_empty k rs)) → P (drop_empty k (r ∷ rs))
unfolding drop_empty
drop_empty_cases P k r rs y n = go (all_zero (take k r)) refl
  where
    go : (b : Bool) → all_zero (take k r) ≡ b → P (pick b (drop_empty k rs) (r ∷ drop_empty k rs))
    go true e = y (true_empty k r e)
    go false e = n (λ h. true≢false (sym (empty_true k r h) ∙ e))

pub drop_empty_append : (k : ℕ) (xs ys : List (List ℕ)) → drop_empty k (xs ++ ys) ≡ drop_empty k xs ++ drop_empty k ys
unfolding drop_empty
drop_empty_append k [] ys = refl
drop_empty_append k (r ∷ xs) ys = go (all_zero (take k r)) (drop_empty_append k xs ys)
  where
    go : (b : Bool) {l : List (List ℕ)} → l ≡ drop_empty k xs ++ drop_empty k ys
        → pick b l (r ∷ l) ≡ pick b (drop_empty k xs) (r ∷ drop_empty k xs) ++ drop_empty k ys
    go true e = e
    go false e = ap (λ (x : List (List ℕ)). r ∷ x) e

pub drop_empty_le : (k : ℕ) (rows : List (List ℕ)) → length (drop_empty k rows) ≤ length rows
unfolding drop_empty
drop_empty_le k [] = omega arith
drop_empty_le k (r ∷ rs) =
    drop_empty_cases (λ x. length x ≤ suc (length rs)) k r rs (λ e. omega (arith, drop_empty_le k rs)) (λ n. omega (arith, drop_empty_le k rs))

pub drop_empty_full : (k : ℕ) (rows : List (List ℕ)) → length (drop_empty k rows) ≡ length rows → drop_empty k rows ≡ rows
unfolding drop_empty
drop_empty_full k [] = λ e. refl
drop_empty_full k (r ∷ rs) =
    drop_empty_cases (λ x. length x ≡ suc (length rs) → x ≡ r ∷ rs) k r rs
    (λ y e. absurd (omega (arith, drop_empty_le k rs))) (λ n e. ap (λ (x : List (List ℕ)). r ∷ x) (drop_empty_full k rs (omega arith)))

pub drop_empty_loses : (k : ℕ) (rows : List (List ℕ)) (i : ℕ) → i < length rows → Empty k (get_or rows i []) → length (drop_empty k rows) < length rows
unfolding drop_empty
drop_empty_loses k [] i h z = absurd (not-suc-le-zero h)
drop_empty_loses k (r ∷ rs) zero h z =
    drop_empty_cases (λ x. length x < suc (length rs)) k r rs (λ e. omega (arith, drop_empty_le k rs)) (λ n. absurd (n z))
drop_empty_loses k (r ∷ rs) (suc i) h z =
    let ih : length (drop_empty k rs) < length rs = drop_empty_loses k rs i (omega arith) z in
    drop_empty_cases (λ x. length x < suc (length rs)) k r rs (λ e. omega arith) (λ n. omega arith)
