-- Each entry has one result: two outcomes that meet its record at the same input are equal, for an equation gives each part.
-- Assumes nothing.
use mathlib.Core.Path.{◌≡◌, sym, ◌∙◌}
use mathlib.Core.List.{List}
use Prim.Native.Nat.{ℕ}
use Rattle.std.specs.Prelude.{Result}
use Rattle.answers.specs.Number.{Answer}
use Rattle.answers.specs.declared.RLNCError.{RLNCError}
use Rattle.galois.specs.FieldLaws.{FieldLaws}
use Rattle.recoder.specs.declared.Recoder.{Recoder}
use Rattle.recoder.specs.Entries.{NewRecoder, Recoded}

pub one_new_recoder : {n width k : ℕ} {r r' : Result Recoder RLNCError} → NewRecoder n width k r → NewRecoder n width k r' → r ≡ r'
one_new_recoder x y = x.result ∙ sym y.result

pub one_recoded : {𝓕 : FieldLaws} {d : Recoder} {pieces vector out : List ℕ} {r r' : Answer} {last last' : List ℕ}
    → Recoded 𝓕 d pieces vector out r last → Recoded 𝓕 d pieces vector out r' last' → (r ≡ r') × (last ≡ last')
one_recoded x y = (x.result ∙ sym y.result, x.left ∙ sym y.left)
