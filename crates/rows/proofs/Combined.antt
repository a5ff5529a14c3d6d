-- The outcome of combining by its test, and what a caller whose buffer holds the rows learns; and two outcomes that meet the record are equal.
-- Assumes nothing.
use mathlib.Core.Path.{◌≡◌, refl, sym, ◌∙◌}
use mathlib.Core.Bool.{true, false}
use mathlib.Core.List.{List}
use Prim.Native.Nat.{ℕ, ◌*◌, ◌≤◌}
use lib.Dec.{leb}
use lib.ListN.{length}
use borrow.Author.Tests.{le-leb}
use Rattle.std.specs.Prelude.{Ok, Err}
use Rattle.answers.specs.Number.{Answer}
use Rattle.answers.specs.declared.RLNCError.TheVariants.{BadState}
use Rattle.galois.specs.FieldLaws.{FieldLaws}
use Rattle.linear.specs.Buffer.{rows_of}
use Rattle.linear.specs.Pieces.{combine}
use Rattle.rows.specs.Combining.{Combined}

module _ {𝓕 : FieldLaws} {rows numbers out : List ℕ} where
  pub combined : {r : Answer} {last : List ℕ} → Combined 𝓕 rows numbers out r last → length numbers * length out ≤ length rows
      → (r ≡ Ok tt) × (last ≡ combine 𝓕 (length out) numbers (rows_of (length out) (length numbers) rows))
  combined x h =
      let t : leb (length numbers * length out) (length rows) ≡ true = le-leb _ _ h in
      (rw t at x.answer, rw t at x.left)

  pub one_combined : {last last' : List ℕ} {r r' : Answer} → Combined 𝓕 rows numbers out r last → Combined 𝓕 rows numbers out r' last'
      → (r ≡ r') × (last ≡ last')
  one_combined x y = (x.answer ∙ sym y.answer, x.left ∙ sym y.left)

  -- Named in docs/PORT.md; no proof here cites them.

  pub combine_refused : leb (length numbers * length out) (length rows) ≡ false → Combined 𝓕 rows numbers out (Err BadState) out
  combine_refused n = record { answer = rw n refl; left = rw n refl }

  pub combine_made : {last : List ℕ} → leb (length numbers * length out) (length rows) ≡ true
      → last ≡ combine 𝓕 (length out) numbers (rows_of (length out) (length numbers) rows) → Combined 𝓕 rows numbers out (Ok tt) last
  combine_made e l = record { answer = rw e refl; left = rw e l }
