-- What a program says when it is pumped over an input is what it says of the input's stream, for every input of fewer than 2^64 - 1 bytes: proved once,
-- for every program that takes the pieces of a stream so long as their offsets are numbers of the machine.
-- Assumes nothing.
use mathlib.Core.Path.{◌≡◌, refl, sym, ap, ◌∙◌}
use mathlib.Core.Bool.{Bool, true, false}
use mathlib.Core.List.{List, [], ◌∷◌, ◌++◌, append_assoc, append-nil}
use Prim.Native.Nat.{ℕ, zero, suc, ◌+◌, ◌≤◌, ◌<◌}
use native.Mathlib.Nat.{not-suc-le-zero, add_comm}
use native.Mathlib.Numerals.{add-one}
use native.Mathlib.Omega.{arith}
use borrow.Author.Tests.{ltb-true, ltb-false}
use lib.Dec.{ltb}
use lib.ListN.{length, take, drop, length-take, length-drop}
use lib.Seq.{take-take, drop-drop}
use Rattle.std.specs.Prelude.{Option, Some, None, Result, Ok, Err}
use Rattle.answers.specs.Number.{Answer}
use Rattle.answers.specs.declared.RLNCError.{RLNCError}
use Rattle.answers.specs.declared.RLNCError.TheVariants.{CutRecord}
use Rattle.linear.specs.Choice.{pick, if_zero}
use Rattle.block.specs.Refusal.{if_ok}
use Rattle.stream.specs.declared.Geometry.{Geometry}
use Rattle.stream.specs.declared.Record.{Record}
use Rattle.stream.specs.declared.Record.TheVariants as record·
use Rattle.stream.specs.Geometries.{body_of}
use Rattle.stream.specs.Records.{kind_record, record_at}
use Rattle.stream.specs.Streams.{largest, stream_from, stream_of}
use Rattle.stream.proofs.Streams.{from_piece, from_end, from_refused}
use Rattle.reader.specs.declared.Place.TheVariants as place·
use Rattle.reader.specs.declared.Reader.{Reader}
use Rattle.reader.specs.declared.Came.{Came}
use Rattle.reader.specs.declared.Came.TheVariants as came·
use Rattle.reader.specs.Reading.{longest, started, wanted, opened_by, place_by, brought_by, brings, progress}
use Rattle.reader.specs.Pump.{Program, says_from, front, kept, declines, back, turn_by, pumped_from}
use Rattle.reader.proofs.Reading.{place_decides}
use Rattle.reader.proofs.ByKind.{cut_to, by_kind}
use Rattle.reader.proofs.Turns.{body_at, brings_cut, brings_whole}

module _ {A S : Type 0} (p : Program A S) where
  -- ---- one turn

  pub wants_nothing : (n : ℕ) (r : Reader) (s : S) (left : List ℕ) → wanted r.place ≡ 0 → pumped_from p n r s left ≡ []
  unfolding pumped_from
  wants_nothing zero r s left e = refl
  wants_nothing (suc n) r s left e =
      ap (λ (m : ℕ). if_zero m [] (turn_by p s (take (wanted r.place) left) (λ next t. pumped_from p n next t (drop (wanted r.place) left)) (progress r (take (wanted r.place) left)))) e

  done_pumped : (n : ℕ) (so_far : Option Geometry) (at : ℕ) (s : S) (left : List ℕ)
      → pumped_from p n (record { place = place·.Done; seen = so_far; at = at }) s left ≡ []
  unfolding wanted
  done_pumped n so_far at s left = wants_nothing n (record { place = place·.Done; seen = so_far; at = at }) s left refl

  pub turned : (n w : ℕ) (r : Reader) (s : S) (left : List ℕ) → wanted r.place ≡ suc w → (next : Reader) (came : Came) (then : Result Record RLNCError)
      → progress r (take (wanted r.place) left) ≡ Ok (brought_by next came then) → declines p s came ≡ Ok tt
      → pumped_from p (suc n) r s left
      ≡ (front p s came (take (wanted r.place) left) ++ back p (kept p s came (take (wanted r.place) left)) then next.at)
      ++ pumped_from p n next (kept p s came (take (wanted r.place) left)) (drop (wanted r.place) left)
  unfolding pumped_from turn_by
  turned n w r s left k next came then e ok =
      let bytes : List ℕ = take (wanted r.place) left in
      let later : Reader → S → List A = λ next t. pumped_from p n next t (drop (wanted r.place) left) in
      let text : List A = (front p s came bytes ++ back p (kept p s came bytes) then next.at) ++ later next (kept p s came bytes) in
      ap (λ (m : ℕ). if_zero m [] (turn_by p s bytes later (progress r bytes))) k
      ∙ ap (turn_by p s bytes later) e
      ∙ ap (λ (a : Answer). if_ok a text []) ok

  -- ---- the end and a stop

  ended : (n m : ℕ) (so_far : Option Geometry) (at : ℕ) (s : S) (rest left : List ℕ) → record_at so_far rest ≡ Ok record·.End
      → back p s (Ok record·.End) at ++ pumped_from p n (record { place = place·.Done; seen = so_far; at = at }) s left ≡ says_from p s (stream_from (suc m) so_far at rest)
  unfolding says_from back
  ended n m so_far at s rest left e =
      ap (λ (l : List A). p.ending s ++ l) (done_pumped n so_far at s left) ∙ append-nil (p.ending s) ∙ ap (says_from p s) (sym (from_end m so_far at rest e))

  stopped : (n m : ℕ) (so_far : Option Geometry) (at : ℕ) (s : S) (rest left : List ℕ) (a : RLNCError) → record_at so_far rest ≡ Err a
      → back p s (Err a) at ++ pumped_from p n (record { place = place·.Done; seen = so_far; at = at }) s left ≡ says_from p s (stream_from (suc m) so_far at rest)
  unfolding says_from back
  stopped n m so_far at s rest left a e =
      ap (λ (l : List A). p.stopping a at ++ l) (done_pumped n so_far at s left) ∙ append-nil (p.stopping a at)
      ∙ ap (says_from p s) (sym (from_refused m so_far at rest a e))

  -- ---- from a kind byte on, and from a body on

  module _ (Holds : ℕ → S → Type 0) (passes : (at : ℕ) (s : S) (g : Geometry) → Holds at s → at + 1 + body_of g ≤ largest → p.refusal s g ≡ Ok tt)
      (goes_on : (at : ℕ) (s : S) (g : Geometry) (full : List ℕ) → Holds at s → Holds (at + 1 + body_of g) (p.after s g full)) where
    -- a kind byte at the offset has said that this body comes
    FromBody : ℕ → ℕ → Type 0
    FromBody n m = (so_far : Option Geometry) (g : Geometry) (kind at : ℕ) (s : S) (left : List ℕ) → length left < n → suc (length left) < m → at + 1 + length left ≤ largest → Holds at s
        → kind_record so_far kind longest ≡ Ok (record·.Piece g) → pumped_from p n (body_at g so_far at) s left ≡ says_from p s (stream_from m so_far at (kind ∷ left))

    from_kind : (n m : ℕ) (so_far : Option Geometry) (at : ℕ) (s : S) (rest : List ℕ) → length rest < suc n → length rest < suc m → at + length rest ≤ largest → Holds at s → FromBody n (suc m)
        → (r : Result Record RLNCError) → opened_by so_far (take 1 rest) ≡ r
        → back p s r at ++ pumped_from p n (record { place = place_by r; seen = so_far; at = at }) s (drop 1 rest) ≡ says_from p s (stream_from (suc m) so_far at rest)
    unfolding FromBody opened_by record_at says_from back place_by
    from_kind n m so_far at s [] h k f o from (Ok (record·.Piece g)) e = let z : ◌≡◌ {A = ℕ} 0 1 = cc in absurd (omega arith)
    from_kind n m so_far at s [] h k f o from (Ok record·.End) e = let z : ◌≡◌ {A = ℕ} 0 1 = cc in absurd (omega arith)
    from_kind n m so_far at s [] h k f o from (Err a) e = stopped n m so_far at s [] [] a e
    from_kind n m so_far at s (kind ∷ later) h k f o from (Ok (record·.Piece g)) e = from so_far g kind at s later (omega arith) (omega arith) (omega arith) o e
    from_kind n m so_far at s (kind ∷ later) h k f o from (Ok record·.End) e =
        ended n m so_far at s (kind ∷ later) later (by_kind so_far kind (length later) ∙ ap (cut_to (length later)) e)
    from_kind n m so_far at s (kind ∷ later) h k f o from (Err a) e =
        stopped n m so_far at s (kind ∷ later) later a (by_kind so_far kind (length later) ∙ ap (cut_to (length later)) e)

    module _ (n m : ℕ) (so_far : Option Geometry) (g : Geometry) (kind at : ℕ) (s : S) (left : List ℕ) (e : kind_record so_far kind longest ≡ Ok (record·.Piece g)) where
      -- the record, with so many bytes behind its kind
      behind : (t : Bool) → ltb (length left) (body_of g) ≡ t → record_at so_far (kind ∷ left) ≡ pick t (Err CutRecord) (Ok (record·.Piece g))
      unfolding record_at
      behind t f = by_kind so_far kind (length left) ∙ ap (cut_to (length left)) e ∙ ap (λ (u : Bool). pick u (Err CutRecord) (Ok (record·.Piece g))) f

      cut_body : ltb (length left) (body_of g) ≡ true → pumped_from p (suc n) (body_at g so_far at) s left ≡ says_from p s (stream_from (suc m) so_far at (kind ∷ left))
      unfolding wanted front kept declines place_by
      cut_body f =
          turned n (body_of g) (body_at g so_far at) s left (add-one (body_of g)) _ came·.Cut (Err CutRecord)
          (brings_cut g so_far at left (ltb-true (length left) (body_of g) f)) refl
          ∙ stopped n m so_far at s (kind ∷ left) (drop (body_of g + 1) left) CutRecord (behind true f)

      whole_body : length left < suc n → length left < suc m → at + 1 + length left ≤ largest → Holds at s → FromBody n (suc m) → ltb (length left) (body_of g) ≡ false
          → pumped_from p (suc n) (body_at g so_far at) s left ≡ says_from p s (stream_from (suc (suc m)) so_far at (kind ∷ left))
      unfolding wanted front kept declines says_from
      whole_body h k l o from f =
          let b : body_of g ≤ length left = ltb-false (length left) (body_of g) f in
          let full : List ℕ = take (body_of g) left in
          let rest : List ℕ = drop (body_of g) left in
          let t : S = p.after s g full in
          let r : Result Record RLNCError = opened_by (Some g) (take 1 rest) in
          let next : Reader = record { place = place_by r; seen = Some g; at = at + 1 + body_of g } in
          let q : take (body_of g) (take (body_of g + 1) left) ≡ full = take-take (body_of g) (body_of g + 1) left (omega arith) in
          let d : drop (body_of g + 1) left ≡ drop 1 rest = sym (drop-drop 1 (body_of g) left) in
          turned n (body_of g) (body_at g so_far at) s left (add-one (body_of g)) next (came·.Piece g) r
          (brings_whole g so_far at left b (omega arith)) (passes at s g o (omega arith))
          ∙ (λ i. (p.line s g (q i) ++ back p (p.after s g (q i)) r (at + 1 + body_of g)) ++ pumped_from p n next (p.after s g (q i)) (d i))
          ∙ append_assoc (p.line s g full) (back p t r (at + 1 + body_of g)) (pumped_from p n next t (drop 1 rest))
          ∙ ap (λ (x : List A). p.line s g full ++ x)
          (from_kind n m (Some g) (at + 1 + body_of g) t rest (omega (arith, length-drop (body_of g) left)) (omega (arith, length-drop (body_of g) left))
          (omega (arith, length-drop (body_of g) left)) (goes_on at s g full o) from r refl)
          ∙ ap (λ (x : List ℕ). p.line s g full ++ says_from p t (stream_from (suc m) (Some g) (at + 1 + body_of g) x))
          (sym (ap (λ (i : ℕ). drop i (kind ∷ left)) (add_comm 1 (body_of g) ∙ add-one (body_of g))))
          ∙ ap (says_from p s) (sym (from_piece (suc m) so_far at (kind ∷ left) g (behind false f)))

    from_body : (n m : ℕ) → FromBody n m
    unfolding FromBody
    from_body zero m so_far g kind at s left h k l o e = absurd (not-suc-le-zero h)
    from_body (suc n) zero so_far g kind at s left h k l o e = absurd (not-suc-le-zero k)
    from_body (suc n) (suc zero) so_far g kind at s left h k l o e = absurd (omega arith)
    from_body (suc n) (suc (suc m)) so_far g kind at s left h k l o e = either (from_body n (suc m)) (ltb (length left) (body_of g)) refl
      where
        either : FromBody n (suc m) → (t : Bool) → ltb (length left) (body_of g) ≡ t
            → pumped_from p (suc n) (body_at g so_far at) s left ≡ says_from p s (stream_from (suc (suc m)) so_far at (kind ∷ left))
        either later true f = cut_body n (suc m) so_far g kind at s left e f
        either later false f = whole_body n m so_far g kind at s left e h (omega arith) l o later f

    -- ---- the whole input

    pub pumped_is : (n : ℕ) (s : S) (input : List ℕ) → Holds 0 s → length input < largest → length input < n
        → pumped_from p n started s input ≡ p.header ++ says_from p s (stream_of input)
    unfolding stream_of wanted brings front kept declines
    pumped_is zero s input o small h = absurd (not-suc-le-zero h)
    pumped_is (suc n) s input o small h =
        let r : Result Record RLNCError = opened_by None (take 1 input) in
        let next : Reader = record { place = place_by r; seen = None; at = 0 } in
        turned n 0 started s input refl next came·.Start r (place_decides started (take 1 input) (simp length-take (omega arith))) refl
        ∙ append_assoc p.header (back p s r 0) (pumped_from p n next s (drop 1 input))
        ∙ ap (λ (x : List A). p.header ++ x)
        (from_kind n (length input) None 0 s input h (omega arith) (omega arith) o (from_body n (suc (length input))) r refl)
