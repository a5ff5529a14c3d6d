-- Each outcome is determined by what goes in: two answers and two lists of bytes that meet its record are equal, for an equation gives each.
-- Assumes nothing.
use mathlib.Core.Path.{◌≡◌, sym, ◌∙◌}
use mathlib.Core.List.{List}
use Prim.Native.Nat.{ℕ}
use Rattle.answers.specs.Number.{Answer}
use Rattle.galois.specs.FieldLaws.{FieldLaws}
use Rattle.rows.specs.declared.Parts.{Parts}
use Rattle.rows.specs.Outcomes.{Scaled, Summed, Added, PartAdded}

pub one_scaled : {𝓕 : FieldLaws} {q : ℕ} {row last last' : List ℕ} → Scaled 𝓕 q row last → Scaled 𝓕 q row last' → last ≡ last'
one_scaled x y = x.left ∙ sym y.left

pub one_summed : {src dst last last' : List ℕ} {r r' : Answer} → Summed src dst r last → Summed src dst r' last' → (r ≡ r') × (last ≡ last')
one_summed x y = (x.answer ∙ sym y.answer, x.left ∙ sym y.left)

pub one_added : {𝓕 : FieldLaws} {q : ℕ} {src dst last last' : List ℕ} {r r' : Answer} → Added 𝓕 q src dst r last → Added 𝓕 q src dst r' last'
    → (r ≡ r') × (last ≡ last')
one_added x y = (x.answer ∙ sym y.answer, x.left ∙ sym y.left)

pub one_part_added : {𝓕 : FieldLaws} {q : ℕ} {p : Parts} {b last last' : List ℕ} {r r' : Answer} → PartAdded 𝓕 q p b r last
    → PartAdded 𝓕 q p b r' last' → (r ≡ r') × (last ≡ last')
one_part_added x y = (x.answer ∙ sym y.answer, x.left ∙ sym y.left)
