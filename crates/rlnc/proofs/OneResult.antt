-- Each outcome is determined by what goes in: an equation gives the number, what is stored and what is left.
-- Assumes nothing.
use mathlib.Core.Path.{◌≡◌, sym, ◌∙◌}
use mathlib.Core.Bool.{Bool}
use mathlib.Core.List.{List}
use Prim.Native.Nat.{ℕ}
use Rattle.std.specs.Prelude.{Option, Result}
use Rattle.answers.specs.Number.{Answer}
use Rattle.answers.specs.declared.RLNCError.{RLNCError}
use Rattle.galois.specs.FieldLaws.{FieldLaws}
use Rattle.decoder.specs.declared.Decoder.{Decoder}
use Rattle.stream.specs.declared.Geometry.{Geometry}
use Rattle.stream.specs.declared.Record.{Record}
use Rattle.rlnc.specs.Numbered.{Numbered}
use Rattle.rlnc.specs.Given.{QuotientGiven, CountGiven, CompleteGiven}
use Rattle.rlnc.specs.Records.{EncoderMade, UnpaddedMade, RecoderMade, DecoderMade, PieceTaken, DataRecovered}
use Rattle.rlnc.specs.Forms.{FormSaved, FormLoaded}
use Rattle.rlnc.specs.Streams.{RecordGiven, PieceWritten, SizesGiven}

-- where the outcome of the layer below leaves one content for an answer, so does the entry
pub one_numbered : {last last' : List ℕ} {a : Answer} {r r' : ℕ} (Outcome : List ℕ → Answer → Type 0)
    → ((x y : List ℕ) → Outcome x a → Outcome y a → x ≡ y) → Numbered (Outcome last) a r → Numbered (Outcome last') a r' → (r ≡ r') × (last ≡ last')
one_numbered {last} {last'} Outcome one x y = (x.number ∙ sym y.number, one last last' x.outcome y.outcome)

pub one_quotient : {q : Option ℕ} {before after after' : ℕ} {r r' : Bool} → QuotientGiven q before r after → QuotientGiven q before r' after'
    → (r ≡ r') × (after ≡ after')
one_quotient x y = (x.told ∙ sym y.told, x.stored ∙ sym y.stored)

pub one_count : {c : Result ℕ RLNCError} {before r r' after after' : ℕ} → CountGiven c before r after → CountGiven c before r' after' → (r ≡ r') × (after ≡ after')
one_count x y = (x.number ∙ sym y.number, x.stored ∙ sym y.stored)

pub one_complete : {c : Result Bool RLNCError} {before after after' : Bool} {r r' : ℕ} → CompleteGiven c before r after → CompleteGiven c before r' after'
    → (r ≡ r') × (after ≡ after')
one_complete x y = (x.number ∙ sym y.number, x.stored ∙ sym y.stored)

pub one_encoder : {M k L r r' n n' : ℕ} {bytes block last last' : List ℕ} → EncoderMade M bytes block k L r n last → EncoderMade M bytes block k L r' n' last'
    → (r ≡ r') × (n ≡ n') × (last ≡ last')
one_encoder x y = (x.number ∙ sym y.number, x.length_stored ∙ sym y.length_stored, x.left ∙ sym y.left)

pub one_unpadded : {n k L r r' l l' : ℕ} → UnpaddedMade n k L r l → UnpaddedMade n k L r' l' → (r ≡ r') × (l ≡ l')
one_unpadded x y = (x.number ∙ sym y.number, x.length_stored ∙ sym y.length_stored)

pub one_recoder : {n width k m r r' c c' : ℕ} → RecoderMade n width k m r c → RecoderMade n width k m r' c' → (r ≡ r') × (c ≡ c')
one_recoder x y = (x.number ∙ sym y.number, x.count_stored ∙ sym y.count_stored)

pub one_decoder : {L k rows taken r r' a a' b b' : ℕ} {elements last last' : List ℕ} → DecoderMade L k elements rows taken r a b last
    → DecoderMade L k elements rows taken r' a' b' last' → (r ≡ r') × (a ≡ a') × (b ≡ b') × (last ≡ last')
one_decoder x y =
    (x.number ∙ sym y.number, x.rows_stored ∙ sym y.rows_stored, x.taken_stored ∙ sym y.taken_stored, x.left ∙ sym y.left)

pub one_taken : {𝓕 : FieldLaws} {d : Decoder} {r r' a a' b b' : ℕ} {elements full last last' : List ℕ} → PieceTaken 𝓕 d elements full r a b last
    → PieceTaken 𝓕 d elements full r' a' b' last' → (r ≡ r') × (a ≡ a') × (b ≡ b') × (last ≡ last')
one_taken x y =
    (x.number ∙ sym y.number, x.rows_stored ∙ sym y.rows_stored, x.taken_stored ∙ sym y.taken_stored, x.left ∙ sym y.left)

pub one_recovered : {M n r r' a a' : ℕ} {d : Decoder} {elements out last last' : List ℕ} → DataRecovered M d elements out n r a last
    → DataRecovered M d elements out n r' a' last' → (r ≡ r') × (a ≡ a') × (last ≡ last')
one_recovered x y = (x.number ∙ sym y.number, x.length_stored ∙ sym y.length_stored, x.left ∙ sym y.left)

pub one_saved : {n r r' a a' : ℕ} {d : Decoder} {elements out last last' : List ℕ} → FormSaved d elements out n r a last
    → FormSaved d elements out n r' a' last' → (r ≡ r') × (a ≡ a') × (last ≡ last')
one_saved x y = (x.number ∙ sym y.number, x.length_stored ∙ sym y.length_stored, x.left ∙ sym y.left)

pub one_loaded : {form elements last last' : List ℕ} {before after after' : Decoder} {r r' : ℕ} → FormLoaded form elements before r after last
    → FormLoaded form elements before r' after' last' → (r ≡ r') × (after ≡ after') × (last ≡ last')
one_loaded x y = (x.number ∙ sym y.number, x.stored ∙ sym y.stored, x.left ∙ sym y.left)

pub one_record : {m : Result Record RLNCError} {before r r' after after' : ℕ} → RecordGiven m before r after → RecordGiven m before r' after'
    → (r ≡ r') × (after ≡ after')
one_record x y = (x.number ∙ sym y.number, x.stored ∙ sym y.stored)

pub one_written : {l : Option Geometry} {piece out last last' : List ℕ} {r r' : ℕ} → PieceWritten l piece out r last → PieceWritten l piece out r' last'
    → (r ≡ r') × (last ≡ last')
one_written x y = (x.number ∙ sym y.number, x.left ∙ sym y.left)

pub one_sizes : {l : Option Geometry} {k L r r' a a' b b' : ℕ} → SizesGiven l k L r a b → SizesGiven l k L r' a' b' → (r ≡ r') × (a ≡ a') × (b ≡ b')
one_sizes x y = (x.number ∙ sym y.number, x.pieces_stored ∙ sym y.pieces_stored, x.length_stored ∙ sym y.length_stored)
