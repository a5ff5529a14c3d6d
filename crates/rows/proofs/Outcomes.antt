-- Each outcome by its test, and what a caller learns whose lengths are equal, or whose parts lie apart.
-- Assumes nothing.
use mathlib.Core.Path.{◌≡◌, refl}
use mathlib.Core.Bool.{true, false}
use mathlib.Core.List.{List}
use Prim.Native.Nat.{ℕ}
use lib.ListN.{length}
use borrow.Author.Tests.{eq-eqb, ne_eqb}
use Rattle.std.specs.Prelude.{Ok, Err}
use Rattle.answers.specs.Number.{Answer}
use Rattle.answers.specs.declared.RLNCError.TheVariants.{InvalidPieceLength, BadState}
use Rattle.galois.specs.FieldLaws.{FieldLaws}
use Rattle.linear.specs.Rows.{add_multiple}
use Rattle.rows.specs.declared.Parts.{Parts}
use Rattle.rows.specs.Parts.{lie_apart}
use Rattle.rows.specs.Outcomes.{add_row, added_part, Summed, Added, PartAdded}
use Rattle.rows.proofs.PartLaws.{Apart, lies}

module _ {𝓕 : FieldLaws} {q : ℕ} {src dst : List ℕ} where
  pub made : {last : List ℕ} → length dst ≡ length src → last ≡ add_multiple 𝓕 q src dst → Added 𝓕 q src dst (Ok tt) last
  made e l = record { answer = simp (eq-eqb _ _ e); left = simp (eq-eqb _ _ e) l }

  pub added : {r : Answer} {last : List ℕ} → Added 𝓕 q src dst r last → length dst ≡ length src → (r ≡ Ok tt) × (last ≡ add_multiple 𝓕 q src dst)
  added a e = (rw (eq-eqb (length dst) (length src) e) at a.answer, rw (eq-eqb (length dst) (length src) e) at a.left)

pub part_added : {𝓕 : FieldLaws} {q : ℕ} {p : Parts} {b : List ℕ} {r : Answer} {last : List ℕ} → PartAdded 𝓕 q p b r last
    → Apart p.from p.to p.len (length b) → last ≡ added_part 𝓕 q p b
part_added {p = p} {b = b} a t = rw (lies p (length b) t) at a.left

-- Named in docs/PORT.md; no proof here cites them.

module _ {src dst : List ℕ} where
  pub sum_refused : (length dst ≡ length src → ⊥) → Summed src dst (Err InvalidPieceLength) dst
  sum_refused n = record { answer = simp (ne_eqb _ _ n); left = simp (ne_eqb _ _ n) }

  pub sum_made : {last : List ℕ} → length dst ≡ length src → last ≡ add_row src dst → Summed src dst (Ok tt) last
  sum_made e l = record { answer = simp (eq-eqb _ _ e); left = simp (eq-eqb _ _ e) l }

pub refused : {𝓕 : FieldLaws} {q : ℕ} {src dst : List ℕ} → (length dst ≡ length src → ⊥) → Added 𝓕 q src dst (Err InvalidPieceLength) dst
refused n = record { answer = simp (ne_eqb _ _ n); left = simp (ne_eqb _ _ n) }

module _ {𝓕 : FieldLaws} {q : ℕ} {p : Parts} {b : List ℕ} where
  pub part_refused : lie_apart p (length b) ≡ false → PartAdded 𝓕 q p b (Err BadState) b
  part_refused n = record { answer = rw n refl; left = rw n refl }

  pub part_made : {last : List ℕ} → lie_apart p (length b) ≡ true → last ≡ added_part 𝓕 q p b → PartAdded 𝓕 q p b (Ok tt) last
  part_made e l = record { answer = rw e refl; left = rw e l }
