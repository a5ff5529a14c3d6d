-- Each outcome is determined by what goes in: two results and two contents of each buffer that meet its record are equal, for an equation gives
-- each. `Lined` is the record of all five lines.
-- Assumes nothing.
use mathlib.Core.Path.{◌≡◌, sym, ◌∙◌}
use mathlib.Core.List.{List}
use Prim.Native.Nat.{ℕ}
use Rattle.std.specs.Prelude.{Result}
use Rattle.answers.specs.declared.RLNCError.{RLNCError}
use Rattle.galois.specs.FieldLaws.{FieldLaws}
use Rattle.stream.specs.declared.Geometry.{Geometry}
use Rattle.listing.specs.declared.join.Joining.{Joining}
use Rattle.listing.specs.declared.join.Step.{Step}
use Rattle.listing.specs.declared.join.End.{End}
use Rattle.listing.specs.Puts.{Lined}
use Rattle.listing.specs.Steps.{Stepped, Finished}

pub one_lined : {line out last last' : List ℕ} {r r' : Result ℕ RLNCError} → Lined line out r last → Lined line out r' last' → (r ≡ r') × (last ≡ last')
one_lined x y = (x.result ∙ sym y.result, x.left ∙ sym y.left)

pub one_stepped : {𝓕 : FieldLaws} {j : Joining} {g : Geometry} {full elements out matrix matrix' text text' : List ℕ} {r r' : Result Step RLNCError}
    → Stepped 𝓕 j g full elements out r matrix text → Stepped 𝓕 j g full elements out r' matrix' text'
    → (r ≡ r') × (matrix ≡ matrix') × (text ≡ text')
one_stepped x y = (x.result ∙ sym y.result, x.left ∙ sym y.left, x.printed ∙ sym y.printed)

pub one_finished : {j : Joining} {elements area out kept kept' text text' : List ℕ} {r r' : Result End RLNCError} → Finished j elements area out r kept text
    → Finished j elements area out r' kept' text' → (r ≡ r') × (kept ≡ kept') × (text ≡ text')
one_finished x y = (x.result ∙ sym y.result, x.left ∙ sym y.left, x.printed ∙ sym y.printed)
