-- What a refusal chooses, and a part of it, handed out as its number and its value.
-- Assumes nothing.
use mathlib.Core.Path.{◌≡◌, refl, ap, ◌∙◌, subst}
use mathlib.Core.Bool.{Bool}
use Prim.Native.Nat.{ℕ}
use Rattle.std.specs.Prelude.{Option, Result, Ok, Err, IsOkAnd, MatchResult}
use Rattle.std.specs.Result.{result_unwrap_or}
use Rattle.answers.specs.Number.{Answer, number_of}
use Rattle.answers.specs.declared.RLNCError.{RLNCError}
use Rattle.block.specs.Refusal.{if_ok, answered}
use Rattle.rlnc.specs.Given.{QuotientGiven, Given, CountGiven}

-- what `map` leaves of a result that a refusal chooses
pub part_of : {A B : Type 0} {P : A → B → Type 0} (part : A → B) (a : Answer) (x : A) {m : Result A RLNCError} {c : Result B RLNCError}
    → ((y : A) (z : B) → P y z → z ≡ part y) → m ≡ answered a x → MatchResult m (λ y. IsOkAnd c (P y)) (λ e. c ≡ Err e) → c ≡ answered a (part x)
part_of {A} {B} {P} part a x {c} h e s = go a c (subst (λ (w : Result A RLNCError). MatchResult w (λ y. IsOkAnd c (P y)) (λ f. c ≡ Err f)) e s)
  where
    go : (a : Answer) (c : Result B RLNCError) → MatchResult (answered a x) (λ y. IsOkAnd c (P y)) (λ e. c ≡ Err e) → c ≡ answered a (part x)
    go (Ok z) (Ok y) t = ap Ok (h x y t)
    go (Ok z) (Err y) t = absurd t
    go (Err f) c t = t

-- its number is that of the refusal, and its value there only where that is Ok
pub number_is : {A : Type 0} (a : Answer) (x : A) → number_of (answered a x) ≡ number_of a
number_is (Ok z) x = refl
number_is (Err e) x = refl

value_is : {A : Type 0} (a : Answer) (x before : A) → result_unwrap_or (answered a x) before ≡ if_ok a x before
value_is (Ok z) x before = refl
value_is (Err e) x before = refl

module _ (a : Answer) (n : ℕ) {before r after : ℕ} {c : Result ℕ RLNCError} (e : c ≡ answered a n) (g : Given c before r after) where
  pub given_number : r ≡ number_of a
  given_number = g.number ∙ ap number_of e ∙ number_is a n

  pub given_value : after ≡ if_ok a n before
  given_value = g.stored ∙ ap (λ (x : Result ℕ RLNCError). result_unwrap_or x before) e ∙ value_is a n before

-- Named in docs/PORT.md; no proof here cites them.

pub byte_given : {q q' : Option ℕ} {before : ℕ} {r : Bool} {after : ℕ} → q ≡ q' → QuotientGiven q before r after → QuotientGiven q' before r after
byte_given {before} {r} {after} e g = subst (λ (q : Option ℕ). QuotientGiven q before r after) e g

pub count_given : {n n' : Result ℕ RLNCError} {before r after : ℕ} → n ≡ n' → CountGiven n before r after → CountGiven n' before r after
count_given {before} {r} {after} e g = subst (λ (n : Result ℕ RLNCError). CountGiven n before r after) e g
