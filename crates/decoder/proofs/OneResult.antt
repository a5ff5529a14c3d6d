-- Each outcome is determined by what goes in: two answers and two lists of bytes that meet its record are equal, for an equation gives each.
-- Assumes nothing.
use mathlib.Core.Path.{◌≡◌, sym, ◌∙◌}
use mathlib.Core.List.{List}
use Prim.Native.Nat.{ℕ}
use Rattle.std.specs.Prelude.{Result}
use Rattle.answers.specs.declared.RLNCError.{RLNCError}
use Rattle.galois.specs.FieldLaws.{FieldLaws}
use Rattle.decoder.specs.declared.Decoder.{Decoder}
use Rattle.decoder.specs.declared.Taken.{Taken}
use Rattle.decoder.specs.Entries.{NewDecoder, Decoded, Recovery}

pub one_new : {L k : ℕ} {elements last last' : List ℕ} {r r' : Result Decoder RLNCError} → NewDecoder L k elements r last → NewDecoder L k elements r' last'
    → (r ≡ r') × (last ≡ last')
one_new x y = (x.result ∙ sym y.result, x.left ∙ sym y.left)

pub one_decoded : {𝓕 : FieldLaws} {d : Decoder} {elements full last last' : List ℕ} {r r' : Result Taken RLNCError} → Decoded 𝓕 d elements full r last
    → Decoded 𝓕 d elements full r' last' → (r ≡ r') × (last ≡ last')
one_decoded x y = (x.result ∙ sym y.result, x.left ∙ sym y.left)

pub one_recovery : {M : ℕ} {d : Decoder} {elements out last last' : List ℕ} {r r' : Result ℕ RLNCError} → Recovery M d elements out r last
    → Recovery M d elements out r' last' → (r ≡ r') × (last ≡ last')
one_recovery x y = (x.result ∙ sym y.result, x.left ∙ sym y.left)
