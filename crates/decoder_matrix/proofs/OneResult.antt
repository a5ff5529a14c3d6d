-- Each contract is an equation for the answer and one for the bytes left, so that two outcomes that meet it are equal. An answer's number and values tell
-- it, and its number is that of the first test that fails.
-- Assumes nothing.
use mathlib.Core.Path.{◌≡◌, refl, sym, ap, ◌∙◌}
use mathlib.Core.Bool.{Bool, true, false}
use mathlib.Core.List.{List}
use Prim.Native.Nat.{ℕ}
use lib.Dec.{eqb}
use lib.ListN.{length, get_or}
use Rattle.std.specs.Prelude.{Result, Ok, Err}
use Rattle.answers.specs.Number.{Answer, number_of}
use Rattle.answers.specs.declared.RLNCError.{RLNCError}
use Rattle.answers.proofs.Numbers.{numbers_tell}
use Rattle.galois.specs.FieldLaws.{FieldLaws}
use Rattle.linear.specs.Choice.{pick}
use Rattle.decoder_matrix.specs.declared.DecoderMatrix.{DecoderMatrix}
use Rattle.decoder_matrix.specs.Matrix.{values_of_matrix, sizes_fit}
use Rattle.decoder_matrix.specs.Outcomes.{has_room, RowAdded, holds_rows, Swapped, Reduced}

pub one_row_added : {m : DecoderMatrix} {elements row last last' : List ℕ} {r r' : Result DecoderMatrix RLNCError} → RowAdded m elements row r last → RowAdded m elements row r' last'
    → (r ≡ r') × (last ≡ last')
one_row_added a b = (a.answer ∙ sym b.answer, a.left ∙ sym b.left)

pub one_swapped : {m : DecoderMatrix} {elements last last' : List ℕ} {i j : ℕ} {r r' : Answer} → Swapped m elements i j r last → Swapped m elements i j r' last'
    → (r ≡ r') × (last ≡ last')
one_swapped a b = (a.answer ∙ sym b.answer, a.left ∙ sym b.left)

pub one_reduced : {𝓕 : FieldLaws} {m : DecoderMatrix} {elements last last' : List ℕ} {r r' : Result DecoderMatrix RLNCError} → Reduced 𝓕 m elements r last → Reduced 𝓕 m elements r' last'
    → (r ≡ r') × (last ≡ last')
one_reduced a b = (a.answer ∙ sym b.answer, a.left ∙ sym b.left)

-- ---- the paper's numbers

pub told : (r r' : Result DecoderMatrix RLNCError) → number_of r ≡ number_of r' → values_of_matrix r ≡ values_of_matrix r' → r ≡ r'
told (Ok m) (Ok m') n v =
    let at : (i : ℕ) → get_or (values_of_matrix (Ok m)) i 0 ≡ get_or (values_of_matrix (Ok m')) i 0 = λ i. ap (λ (l : List ℕ). get_or l i 0) v in
    λ i. Ok (record { num_pieces_coded_together = at 0 i; rows = at 1 i; cols = at 2 i })
told (Ok m) (Err a) n v = cc
told (Err a) (Ok m) n v = cc
told (Err a) (Err b) n v = let e : ◌≡◌ {A = Answer} (Err a) (Err b) = (numbers_tell (Err a) (Err b)).1 n in cc

through : {A : Type 0} (f : A → ℕ) (t : Bool) (a b : A) → f (pick t a b) ≡ pick t (f a) (f b)
through f true a b = refl
through f false a b = refl

pub added_number : {m : DecoderMatrix} {elements row last : List ℕ} {r : Result DecoderMatrix RLNCError} → RowAdded m elements row r last
    → number_of r ≡ pick (has_room m (length elements)) (pick (eqb (length row) m.cols) 0 12) 22
added_number {m} {elements} {row} a =
    ap number_of a.answer ∙ through number_of (has_room m (length elements)) _ _
    ∙ ap (λ (n : ℕ). pick (has_room m (length elements)) n 22) (through number_of (eqb (length row) m.cols) _ _)

pub swapped_number : {m : DecoderMatrix} {elements last : List ℕ} {i j : ℕ} {r : Answer} → Swapped m elements i j r last
    → number_of r ≡ pick (holds_rows m (length elements) i j) 0 22
swapped_number {m} {elements} {last} {i} {j} a = ap number_of a.answer ∙ through number_of (holds_rows m (length elements) i j) _ _

pub reduced_number : {𝓕 : FieldLaws} {m : DecoderMatrix} {elements last : List ℕ} {r : Result DecoderMatrix RLNCError} → Reduced 𝓕 m elements r last
    → number_of r ≡ pick (sizes_fit m (length elements)) 0 22
reduced_number {𝓕} {m} {elements} a = ap number_of a.answer ∙ through number_of (sizes_fit m (length elements)) _ _
