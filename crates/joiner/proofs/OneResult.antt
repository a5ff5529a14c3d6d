-- One result: two outcomes of a call of `feed` with the same input are equal.
-- Assumes nothing.
use mathlib.Core.Path.{◌≡◌, sym, ◌∙◌}
use mathlib.Core.List.{List}
use Prim.Native.Nat.{ℕ}
use Rattle.std.specs.Prelude.{Result}
use Rattle.answers.specs.declared.RLNCError.{RLNCError}
use Rattle.galois.specs.FieldLaws.{FieldLaws}
use Rattle.joiner.specs.declared.Joiner.{Joiner}
use Rattle.joiner.specs.declared.Fed.{Fed}
use Rattle.joiner.specs.Machine.{Feeding}

pub one_fed : (𝓕 : FieldLaws) (m : Joiner) (bytes : List ℕ) {elements area out matrix matrix' block block' last last' : List ℕ} {r r' : Result Fed RLNCError}
    → Feeding 𝓕 m bytes elements area out r matrix block last → Feeding 𝓕 m bytes elements area out r' matrix' block' last'
    → (r ≡ r') × (matrix ≡ matrix') × (block ≡ block') × (last ≡ last')
one_fed 𝓕 m bytes x y = (x.result ∙ sym y.result, x.left ∙ sym y.left, x.block ∙ sym y.block, x.printed ∙ sym y.printed)
