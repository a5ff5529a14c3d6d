-- Each entry has one result: two outcomes that meet its record at the same input are equal, for an equation gives each part.
-- Assumes nothing.
use mathlib.Core.Path.{◌≡◌, sym, ◌∙◌}
use mathlib.Core.List.{List}
use Prim.Native.Nat.{ℕ}
use Rattle.std.specs.Prelude.{Result}
use Rattle.answers.specs.Number.{Answer}
use Rattle.answers.specs.declared.RLNCError.{RLNCError}
use Rattle.galois.specs.FieldLaws.{FieldLaws}
use Rattle.encoder.specs.declared.Encoder.{Encoder}
use Rattle.encoder.specs.Entries.{NewPadded, NewUnpadded, Coded, CodedWhole}

pub one_new_padded : {M : ℕ} {bytes block : List ℕ} {k : ℕ} {r r' : Result Encoder RLNCError} {last last' : List ℕ} → NewPadded M bytes block k r last
    → NewPadded M bytes block k r' last' → (r ≡ r') × (last ≡ last')
one_new_padded x y = (x.result ∙ sym y.result, x.left ∙ sym y.left)

pub one_new_unpadded : {n k : ℕ} {r r' : Result Encoder RLNCError} → NewUnpadded n k r → NewUnpadded n k r' → r ≡ r'
one_new_unpadded x y = x.result ∙ sym y.result

module _ {𝓕 : FieldLaws} {e : Encoder} {block vector out : List ℕ} {r r' : Answer} {last last' : List ℕ} where
  pub one_coded : Coded 𝓕 e block vector out r last → Coded 𝓕 e block vector out r' last' → (r ≡ r') × (last ≡ last')
  one_coded x y = (x.result ∙ sym y.result, x.left ∙ sym y.left)

  pub one_coded_whole : CodedWhole 𝓕 e block vector out r last → CodedWhole 𝓕 e block vector out r' last' → (r ≡ r') × (last ≡ last')
  one_coded_whole x y = (x.result ∙ sym y.result, x.left ∙ sym y.left)
