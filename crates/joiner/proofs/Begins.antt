-- What came first in a turn: the header, the line of a piece, or nothing; and what is known of it from how it was answered.
-- Assumes nothing.
use mathlib.Core.Path.{◌≡◌, refl, sym, ap, ◌∙◌, subst}
use mathlib.Core.List.{List}
use Prim.Native.Nat.{ℕ, ◌≤◌}
use native.Mathlib.Omega.{arith}
use borrow.Author.Tests.{le-ltb}
use lib.ListN.{length, take}
use Rattle.std.specs.Prelude.{Result, Ok, Err}
use Rattle.answers.specs.Number.{Answer}
use Rattle.answers.specs.declared.RLNCError.{RLNCError}
use Rattle.galois.specs.FieldLaws.{FieldLaws}
use Rattle.block.specs.Refusal.{if_ok, answered}
use Rattle.stream.specs.declared.Geometry.{Geometry}
use Rattle.stream.specs.Geometries.{body_of}
use Rattle.reader.specs.declared.Came.{Came}
use Rattle.reader.specs.declared.Came.TheVariants as came·
use Rattle.reader.specs.Pump.{front, kept, declines}
use Rattle.listing.specs.declared.join.Joining.{Joining}
use Rattle.listing.specs.declared.join.Step.{Step}
use Rattle.listing.specs.Lines.{header_line}
use Rattle.listing.specs.Joining.{joined_after, elements_after, line_for}
use Rattle.listing.specs.Steps.{line_room, step_refusal, stepped, Stepped}
use Rattle.block.proofs.Answered.{with_value, with_error}
use Rattle.joiner.specs.Machine.{text_room, State, state, joins, over}
use Rattle.joiner.specs.Parts.{Front, Begun}

-- with room for a line, a step is refused for the same reason whatever the room
pub same_refusal : (j : Joining) (g : Geometry) (room out : ℕ) → line_room ≤ out → step_refusal j g room out ≡ step_refusal j g room text_room
unfolding step_refusal
same_refusal j g room out h = simp (le-ltb _ _ h)

module _ {𝓕 : FieldLaws} (j : Joining) (elements input : List ℕ) {came : Came} {out : List ℕ} where
  pub begins_start : {n : ℕ} {last : List ℕ} → came ≡ came·.Start → Front header_line out n last → Begun 𝓕 (state j elements) came input out (Ok (stepped j n)) elements last
  unfolding declines kept front
  begins_start {n} {last} e f =
      subst (λ (c : Came). Begun 𝓕 (state j elements) c input out (Ok (stepped j n)) elements last) (sym e)
      (record { result = ap (λ (m : ℕ). Ok (stepped j m)) f.counts; left = refl; printed = f.puts })

  pub begins_cut : came ≡ came·.Cut → Begun 𝓕 (state j elements) came input out (Ok (stepped j 0)) elements out
  unfolding declines kept front
  begins_cut e =
      subst (λ (c : Came). Begun 𝓕 (state j elements) c input out (Ok (stepped j 0)) elements out) (sym e) (record { result = refl; left = refl; printed = refl })

  pub begins_piece : (g : Geometry) {n : ℕ} {r : Result Step RLNCError} {matrix last : List ℕ} → came ≡ came·.Piece g → n ≡ body_of g → text_room ≤ length out
      → Stepped 𝓕 j g (take n input) elements out r matrix last → Begun 𝓕 (state j elements) came input out r matrix last
  unfolding declines kept front
  begins_piece g {n} {r} {matrix} {last} e b h x =
      let y = subst (λ (k : ℕ). Stepped 𝓕 j g (take k input) elements out r matrix last) b x in
      let full : List ℕ = take (body_of g) input in
      let same = same_refusal j g (length elements) (length out) (omega arith) in
      subst (λ (c : Came). Begun 𝓕 (state j elements) c input out r matrix last) (sym e)
      (record {
        result = y.result ∙ ap (λ (a : Answer). answered a (stepped (joined_after 𝓕 j elements g full) (length (line_for 𝓕 j elements g full)))) same;
        left = y.left ∙ ap (λ (a : Answer). if_ok a (elements_after 𝓕 j elements g full) elements) same;
        printed = y.printed ∙ ap (λ (a : Answer). if_ok a (over (line_for 𝓕 j elements g full) out) out) same;
      })

-- ---- as it was answered

pub record Goes (𝓕 : FieldLaws) (s : State) (came : Came) (bytes out : List ℕ) (next : Joining) (n : ℕ) (matrix last : List ℕ) : Type 0 where
  pub passes : declines (joins 𝓕) s came ≡ Ok tt
  pub keeps : state next matrix ≡ kept (joins 𝓕) s came bytes
  pub says : Front (front (joins 𝓕) s came bytes) out n last

pub record Declines (𝓕 : FieldLaws) (s : State) (came : Came) (out : List ℕ) (e : RLNCError) (matrix last : List ℕ) : Type 0 where
  pub because : declines (joins 𝓕) s came ≡ Err e
  pub same_matrix : matrix ≡ s.matrix
  pub same_text : last ≡ out

module _ {𝓕 : FieldLaws} {s : State} {came : Came} {bytes out matrix last : List ℕ} {r : Result Step RLNCError} (x : Begun 𝓕 s came bytes out r matrix last) where
  abbrev S : State
  S = kept (joins 𝓕) s came bytes

  abbrev text : List ℕ
  text = front (joins 𝓕) s came bytes

  pub goes : {p : Step} → r ≡ Ok p → Goes 𝓕 s came bytes out p.joining p.size matrix last
  goes e =
      let v = with_value (declines (joins 𝓕) s came) (sym e ∙ x.result) in
      let left : matrix ≡ S.matrix = rw v.0 at x.left in
      record {
        passes = v.0;
        keeps = λ i. state (v.1 i).joining (left i);
        says = record { counts = ap (λ (q : Step). q.size) v.1; puts = rw v.0 at x.printed };
      }

  pub refuses : {e : RLNCError} → r ≡ Err e → Declines 𝓕 s came out e matrix last
  refuses q =
      let v = with_error (declines (joins 𝓕) s came) (stepped S.joining (length text)) (sym q ∙ x.result) in
      record { because = v; same_matrix = rw v at x.left; same_text = rw v at x.printed }
