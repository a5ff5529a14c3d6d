-- When two parts of a buffer lie apart; and a part plus 0 or 1 times another.
-- Assumes nothing.
use mathlib.Core.Path.{◌≡◌, refl, sym, ap, ◌∙◌, subst}
use mathlib.Core.Bool.{Bool, true, false, ◌||◌}
use mathlib.Core.Logic.{◌⊎◌, inl, inr, ⊎_elim}
use mathlib.Core.List.{List, [], ◌∷◌, ◌++◌}
use Prim.Native.Nat.{ℕ, zero, suc, ◌+◌, ◌≤◌, ◌<◌}
use lib.Dec.{leb, lit<}
use lib.ListN.{get_or, take, drop, take-append-drop}
use lib.Seq.{get_or-take, get_or-drop}
use borrow.Author.Tests.{leb-true, le-leb}
use Rattle.galois.specs.FieldLaws.{FieldLaws}
use Rattle.linear.proofs.Choice.{and_true}
use Rattle.rows.specs.declared.Parts.{Parts}
use Rattle.rows.specs.Parts.{part_at, put_part, lie_apart}
use Rattle.rows.specs.Outcomes.{add_row, added_part}
use Rattle.rows.proofs.RowLaws.{added_zero, added_one}

pub record Apart (from to len n : ℕ) : Type 0 where
  pub from_in : from + len ≤ n
  pub to_in : to + len ≤ n
  pub aside : (from + len ≤ to) ⊎ (to + len ≤ from)

pub lies : (p : Parts) (n : ℕ) → Apart p.from p.to p.len n → lie_apart p n ≡ true
lies p n a = rw (le-leb _ _ a.from_in, le-leb _ _ a.to_in) (go a.aside)
  where
    or_right : (t : Bool) → (t || true) ≡ true
    or_right true = refl
    or_right false = refl

    go : (p.from + p.len ≤ p.to) ⊎ (p.to + p.len ≤ p.from) → (leb (p.from + p.len) p.to || leb (p.to + p.len) p.from) ≡ true
    go (inl h) = rw (le-leb _ _ h) refl
    go (inr h) = rw (le-leb _ _ h) (or_right (leb (p.from + p.len) p.to))

-- Named in docs/PORT.md; no proof here cites them.

or_true : (s t : Bool) → (s || t) ≡ true → (s ≡ true) ⊎ (t ≡ true)
or_true true t e = inl refl
or_true false t e = inr e

pub apart : (p : Parts) (n : ℕ) → lie_apart p n ≡ true → Apart p.from p.to p.len n
apart p n e =
    let f = and_true (leb (p.from + p.len) n) _ e in
    let t = and_true (leb (p.to + p.len) n) _ f.1 in
    record {
      from_in = leb-true _ _ f.0;
      to_in = leb-true _ _ t.0;
      aside = ⊎_elim (λ l. inl (leb-true _ _ l)) (λ l. inr (leb-true _ _ l)) (or_true (leb (p.from + p.len) p.to) _ t.1);
    }

-- a test that says the same
pub told : (p : Parts) (n : ℕ) (t : Bool) → (t ≡ true → Apart p.from p.to p.len n) → (Apart p.from p.to p.len n → t ≡ true)
    → t ≡ lie_apart p n
told p n t f g = same t (lie_apart p n) (λ e. lies p n (f e)) (λ e. g (apart p n e))
  where
    same : (s t : Bool) → (s ≡ true → t ≡ true) → (t ≡ true → s ≡ true) → s ≡ t
    same true t f g = sym (f refl)
    same false true f g = g refl
    same false false f g = refl

-- ---- a byte of a part

get_d_part : (at n : ℕ) (b : List ℕ) (i : ℕ) → i < n → get_or (part_at at n b) i 0 ≡ get_or b (at + i) 0
get_d_part at n b i h = get_or-take n (drop at b) i 0 h ∙ get_or-drop at b i 0

-- ---- a factor of 0, and of 1

pub part_zero : (𝓕 : FieldLaws) (p : Parts) (b : List ℕ) → added_part 𝓕 0 p b ≡ b
part_zero 𝓕 p b =
    ap (λ (x : List ℕ). put_part p.to p.len x b) (added_zero 𝓕 (part_at p.from p.len b) (part_at p.to p.len b))
    ∙ ap (λ (x : List ℕ). take p.to b ++ x) (take-append-drop p.len (drop p.to b)) ∙ take-append-drop p.to b

take_bytes : (n : ℕ) (b : List ℕ) → ((i : ℕ) → get_or b i 0 < 256) → (i : ℕ) → get_or (take n b) i 0 < 256
take_bytes zero b h i = lit< tt
take_bytes (suc n) [] h i = lit< tt
take_bytes (suc n) (x ∷ b) h zero = h 0
take_bytes (suc n) (x ∷ b) h (suc i) = take_bytes n b (λ k. h (suc k)) i

pub part_one : (𝓕 : FieldLaws) (p : Parts) (b : List ℕ) → ((i : ℕ) → get_or b i 0 < 256) → added_part 𝓕 1 p b ≡ put_part p.to p.len (add_row (part_at p.from p.len b) (part_at p.to p.len b)) b
part_one 𝓕 p b h =
    ap (λ (x : List ℕ). put_part p.to p.len x b)
    (added_one 𝓕 (part_at p.from p.len b) (part_at p.to p.len b)
    (take_bytes p.len (drop p.from b) (λ i. subst (λ (x : ℕ). x < 256) (sym (get_or-drop p.from b i 0)) (h (p.from + i)))))
