-- The outcomes of a piece's step: a refusal, and a piece taken with the decoder that it finds or makes.
-- Assumes nothing.
use mathlib.Core.Path.{◌≡◌, refl, ap, ◌∙◌}
use mathlib.Core.List.{List, ◌++◌}
use Prim.Native.Nat.{ℕ, ◌≤◌, ◌<◌}
use borrow.Author.Tests.{le-ltb, lt-leb}
use lib.ListN.{length, drop}
use Rattle.std.specs.Prelude.{Result, Ok, Err}
use Rattle.answers.specs.Number.{Answer, number_of}
use Rattle.answers.specs.declared.RLNCError.{RLNCError}
use Rattle.galois.specs.FieldLaws.{FieldLaws}
use Rattle.stream.specs.declared.Geometry.{Geometry}
use Rattle.stream.specs.Streams.{largest}
use Rattle.decoder.specs.declared.Decoder.{Decoder}
use Rattle.decoder.specs.Calls.{number_next, record_next, buffer_next}
use Rattle.listing.specs.declared.join.Joining.{Joining}
use Rattle.listing.specs.declared.join.Step.{Step}
use Rattle.listing.specs.Joining.{decoder_for, matrix_for, joined, line_of, answer_to, decoder_after, elements_after, joined_after, line_for}
use Rattle.listing.specs.Steps.{line_room, start_refusal, step_refusal, Started, Took, stepped, Counted, Stepped}
use Rattle.block.proofs.Answered.{with_value, with_error}

module _ {𝓕 : FieldLaws} {j : Joining} {g : Geometry} {full elements out : List ℕ} where
  pub step_refused : {e : RLNCError} → step_refusal j g (length elements) (length out) ≡ Err e → Stepped 𝓕 j g full elements out (Err e) elements out
  step_refused q = record { result = rw q refl; left = rw q refl; printed = rw q refl }

  pub step_took : {d : Decoder} {m matrix text : List ℕ} {r : Decoder × Answer} {s : Step}
      → step_refusal j g (length elements) (length out) ≡ start_refusal j.held g (length elements) → Started j.held g elements (Ok d) m
      → Took 𝓕 d full m r matrix → Counted j r.0 r.1 out s text → Stepped 𝓕 j g full elements out (Ok s) matrix text
  unfolding answer_to decoder_after elements_after joined_after line_for
  step_took {d} {m} {r = r} same x t c =
      let v = with_value (start_refusal j.held g (length elements)) x.result in
      let ok = same ∙ v.0 in
      let q : m ≡ matrix_for g j.held elements = rw v.0 at x.left in
      let next : r.0 ≡ decoder_after 𝓕 j elements g full = t.next ∙ λ i. record_next 𝓕 (v.1 i) (q i) full in
      let answer : number_of r.1 ≡ answer_to 𝓕 j elements g full = t.answer ∙ λ i. number_next 𝓕 (v.1 i) (q i) full in
      record {
        result = rw ok (ap Ok (c.result ∙ λ i. stepped (joined j (next i) (answer i)) (length (line_of j (next i) (answer i)))));
        left = rw ok (t.left ∙ λ i. buffer_next 𝓕 (v.1 i) (q i) full);
        printed = rw ok (c.left ∙ λ i. line_of j (next i) (answer i) ++ drop (length (line_of j (next i) (answer i))) out);
      }

  -- no decoder could be made
  pub step_not_started : {e : RLNCError} {m : List ℕ} {r : Result Step RLNCError}
      → step_refusal j g (length elements) (length out) ≡ start_refusal j.held g (length elements) → Started j.held g elements (Err e) m → r ≡ Err e
      → Stepped 𝓕 j g full elements out r m out
  step_not_started same x q =
      let v = with_error (start_refusal j.held g (length elements)) (decoder_for g j.held) x.result in
      rw (q, (rw v at x.left)) (step_refused (same ∙ v))

-- where the counts are good and the line has room, only the start can be refused
pub tested : (j : Joining) (g : Geometry) (room out : ℕ) → line_room ≤ out → j.repeats ≤ j.pieces → j.pieces < largest
    → step_refusal j g room out ≡ start_refusal j.held g room
unfolding step_refusal
tested j g room out h k l = simp (le-ltb _ _ h, le-ltb _ _ k, lt-leb _ _ l)
