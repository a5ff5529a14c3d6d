-- The loop of `multiples`, in the field named: the multiples by 1, x, .., x^(i - 1) stand in the array, and each is x times the one before it.
-- Assumes nothing.
use mathlib.Core.Path.{◌≡◌, refl, sym, ap, ◌∙◌, subst}
use mathlib.Core.List.{List, [], ◌∷◌}
use Prim.Native.Nat.{ℕ, zero, suc, ◌+◌, ◌-◌, ◌*◌, ◌^◌, ◌≤◌, ◌<◌}
use native.Mathlib.Nat.{pow-suc}
use native.Mathlib.Decide.{dec_le}
use native.Mathlib.Omega.{arith}
use lib.Dec.{lit<}
use lib.ListN.{length, get_or, set, length-set}
use lib.Pow.{pow_mono}
use Rattle.std.proofs.lemmas.List.{ext_get_or, get_or-set_same, get_or-set_other}
use Rattle.galois.specs.FieldLaws.{FieldLaws}
use Rattle.galois.specs.Multiples.{multiples_of}
use Rattle.galois.proofs.Multiples.{next_multiple}
use Rattle.field.specs.FieldOf.{field_of}
use Rattle.field.specs.declared.Field.{Field}

pub record Begun (F : FieldLaws) (q i : ℕ) (m : List ℕ) : Type 0 where
  pub long : length m ≡ 8
  pub rule : (k : ℕ) → k < i → get_or m k 0 ≡ F.mul q (2 ^ k)

module _ (F : FieldLaws) (q : ℕ) where
  pub begins : q < 256 → Begun F q 1 (q ∷ q ∷ q ∷ q ∷ q ∷ q ∷ q ∷ q ∷ [])
  begins h = record { long = refl; rule = at }
    where
      at : (k : ℕ) → k < 1 → get_or (q ∷ q ∷ q ∷ q ∷ q ∷ q ∷ q ∷ q ∷ []) k 0 ≡ F.mul q (2 ^ k)
      at zero l = sym (F.mul_one q h)
      at (suc k) l = absurd (omega arith)

  next : (k : ℕ) → k < 7 → {a n : ℕ} → a ≡ F.mul q (2 ^ k) → n ≡ F.mul 2 a → n ≡ F.mul q (2 ^ suc k)
  next k h e d =
      let small : 2 ^ k ≤ 2 ^ 6 = pow_mono {i = k} {j = 6} (omega arith) in
      d ∙ ap (F.mul 2) e ∙ sym (ap (F.mul q) (pow-suc 2 k) ∙ next_multiple F q (2 ^ k) (omega arith))

  pub goes_on : (i : ℕ) {n : ℕ} {m : List ℕ} → 1 ≤ i → i < 8 → Begun F q i m → n ≡ F.mul 2 (get_or m (i - 1) 0) → Begun F q (i + 1) (set m i n)
  goes_on zero p l b d = absurd (omega arith)
  goes_on (suc i) {n} {m} p l b d = record { long = length-set m (suc i) n ∙ b.long; rule = λ k h. at k h (dec_le (suc i) k) }
    where
      at : (k : ℕ) → k < suc i + 1 → Dec (suc i ≤ k) → get_or (set m (suc i) n) k 0 ≡ F.mul q (2 ^ k)
      at k h (yes y) =
          let e : suc i ≡ k = omega arith in
          let back : suc i - 1 ≡ i = omega arith in
          subst (λ (k : ℕ). get_or (set m (suc i) n) k 0 ≡ F.mul q (2 ^ k)) e
          (get_or-set_same m (suc i) n 0 (omega (arith, b.long)) ∙ next i (omega arith) (b.rule i (omega arith)) (d ∙ ap (λ (j : ℕ). F.mul 2 (get_or m j 0)) back))
      at k h (no y) = get_or-set_other m (suc i) k n 0 (λ e. y (omega arith)) ∙ b.rule k (omega arith)

  entry : (k : ℕ) → k < 8 → F.mul q (2 ^ k) ≡ get_or (multiples_of F q) k 0
  unfolding multiples_of
  entry zero h = refl
  entry (suc zero) h = refl
  entry (suc (suc zero)) h = refl
  entry (suc (suc (suc zero))) h = refl
  entry (suc (suc (suc (suc zero)))) h = refl
  entry (suc (suc (suc (suc (suc zero))))) h = refl
  entry (suc (suc (suc (suc (suc (suc zero)))))) h = refl
  entry (suc (suc (suc (suc (suc (suc (suc zero))))))) h = refl
  entry (suc (suc (suc (suc (suc (suc (suc (suc k)))))))) h = absurd (omega arith)

  many : length (multiples_of F q) ≡ 8
  unfolding multiples_of
  many = refl

  pub ends : {i : ℕ} {m : List ℕ} → 8 ≤ i → Begun F q i m → m ≡ multiples_of F q
  ends {i} {m} h b = ext_get_or 0 m (multiples_of F q) (b.long ∙ sym many) (λ k l. b.rule k (omega (arith, b.long)) ∙ entry k (omega (arith, b.long)))

-- Named in docs/PORT.md; no proof here cites them.

pub doubled : (f : Field) (q w : ℕ) → w < 128 → {m n : ℕ} → m ≡ (field_of f).mul q w → n ≡ (field_of f).mul 2 m → n ≡ (field_of f).mul q (w * 2)
doubled f q w h e d = d ∙ ap ((field_of f).mul 2) e ∙ sym (next_multiple (field_of f) q w h)

-- the eight, each x times the one before it
pub eight
    : (f : Field) (q m1 m2 m3 m4 m5 m6 m7 : ℕ)
    → q < 256
    → m1 ≡ (field_of f).mul 2 q → m2 ≡ (field_of f).mul 2 m1 → m3 ≡ (field_of f).mul 2 m2 → m4 ≡ (field_of f).mul 2 m3
    → m5 ≡ (field_of f).mul 2 m4 → m6 ≡ (field_of f).mul 2 m5 → m7 ≡ (field_of f).mul 2 m6
    → q ∷ m1 ∷ m2 ∷ m3 ∷ m4 ∷ m5 ∷ m6 ∷ m7 ∷ [] ≡ multiples_of (field_of f) q
unfolding multiples_of
eight f q m1 m2 m3 m4 m5 m6 m7 h e1 e2 e3 e4 e5 e6 e7 =
    let d0 : q ≡ (field_of f).mul q 1 = sym ((field_of f).mul_one q h) in
    let d1 = doubled f q 1 (lit< tt) d0 e1 in
    let d2 = doubled f q 2 (lit< tt) d1 e2 in
    let d3 = doubled f q 4 (lit< tt) d2 e3 in
    let d4 = doubled f q 8 (lit< tt) d3 e4 in
    let d5 = doubled f q 16 (lit< tt) d4 e5 in
    let d6 = doubled f q 32 (lit< tt) d5 e6 in
    let d7 = doubled f q 64 (lit< tt) d6 e7 in
    cc (d0, d1, d2, d3, d4, d5, d6, d7)
