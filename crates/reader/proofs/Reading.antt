-- What the bytes that were wanted bring, case by case.
-- Assumes nothing.
use mathlib.Core.Path.{◌≡◌, refl, subst}
use mathlib.Core.Bool.{Bool, true, false}
use mathlib.Core.List.{List}
use Prim.Native.Nat.{ℕ, ◌+◌, ◌≤◌, ◌<◌}
use native.Mathlib.Omega.{arith}
use borrow.Author.Tests.{lt-ltb, le-ltb, ltb-false}
use lib.Dec.{ltb}
use lib.ListN.{length, drop}
use Rattle.std.specs.Prelude.{Some, Result, Ok, Err}
use Rattle.answers.specs.declared.RLNCError.{RLNCError}
use Rattle.answers.specs.declared.RLNCError.TheVariants.{BadState, CutRecord}
use Rattle.linear.specs.Choice.{pick}
use Rattle.stream.specs.declared.Geometry.{Geometry}
use Rattle.stream.specs.declared.Geometry.TheVariants.{Of3By2, Of16By240, Of32By480}
use Rattle.stream.specs.declared.Record.{Record}
use Rattle.stream.specs.declared.Record.TheVariants as record·
use Rattle.stream.specs.Geometries.{body_of}
use Rattle.stream.specs.Streams.{largest}
use Rattle.reader.specs.declared.Place.{Place}
use Rattle.reader.specs.declared.Place.TheVariants as place·
use Rattle.reader.specs.declared.Reader.{Reader}
use Rattle.reader.specs.declared.Came.{Came}
use Rattle.reader.specs.declared.Came.TheVariants as came·
use Rattle.reader.specs.declared.Progress.{Progress}
use Rattle.reader.specs.Reading.{longest, wanted, opened_by, place_by, brought_by, on, body_brings, brings, progress, body_in}

pub body_short : (g : Geometry) → body_of g ≤ longest
body_short Of3By2 = omega arith
body_short Of16By240 = omega arith
body_short Of32By480 = omega arith

-- ---- a body, and what is wanted

module _ (g : Geometry) (r : Reader) (bytes : List ℕ) where
  pub body_cut : length bytes < body_of g → body_brings g r bytes ≡ Ok (on r.seen r.at came·.Cut (Err CutRecord))
  unfolding body_brings
  body_cut h = simp (lt-ltb _ _ h)

  pub body_far : body_of g ≤ length bytes → largest < r.at + 1 + body_of g → body_brings g r bytes ≡ Err BadState
  unfolding body_brings
  body_far h k = simp (le-ltb _ _ h, lt-ltb _ _ k)

  pub body_whole : body_of g ≤ length bytes → r.at + 1 + body_of g ≤ largest
      → body_brings g r bytes ≡ Ok (on (Some g) (r.at + 1 + body_of g) (came·.Piece g) (opened_by (Some g) (drop (body_of g) bytes)))
  unfolding body_brings
  body_whole h k = simp (le-ltb _ _ h, le-ltb _ _ k)

module _ (r : Reader) (bytes : List ℕ) where
  pub too_many : wanted r.place < length bytes → progress r bytes ≡ Err BadState
  unfolding progress
  too_many h = simp (lt-ltb _ _ h)

  pub place_decides : length bytes ≤ wanted r.place → progress r bytes ≡ brings r.place r bytes
  unfolding progress
  place_decides h = simp (le-ltb _ _ h)

-- ---- what is brought: a piece's whole body is there, with an offset behind it that is a number of the machine; nothing is refused but by 22

pub data Brought (r : Reader) (bytes : List ℕ) (next : Reader) : Came → Type 0 where
  start : next.at ≡ r.at → Brought r bytes next came·.Start
  whole : {g : Geometry} → body_of g ≤ length bytes → next.at ≡ r.at + 1 + body_of g → r.at + 1 + body_of g ≤ largest → Brought r bytes next (came·.Piece g)
  cut : next.at ≡ r.at → Brought r bytes next came·.Cut

-- a body is wanted exactly where one is to come
pub data Opened : Place → Result Record RLNCError → Type 0 where
  body : {g : Geometry} → Opened (place·.Body g) (Ok (record·.Piece g))
  ended : Opened place·.Done (Ok record·.End)
  stopped : {a : RLNCError} → Opened place·.Done (Err a)

by_record : (r : Result Record RLNCError) → Opened (place_by r) r
unfolding place_by
by_record (Ok (record·.Piece g)) = body
by_record (Ok record·.End) = ended
by_record (Err e) = stopped

data Sound (r : Reader) (bytes : List ℕ) : Result Progress RLNCError → Type 0 where
  goes : {next : Reader} {came : Came} {then : Result Record RLNCError} → Brought r bytes next came → Opened next.place then → Sound r bytes (Ok (brought_by next came then))
  bad : Sound r bytes (Err BadState)

either : {r : Reader} {bytes : List ℕ} {x y : Result Progress RLNCError} (t : Bool) → (t ≡ true → Sound r bytes x) → (t ≡ false → Sound r bytes y) → Sound r bytes (pick t x y)
either true f g = f refl
either false f g = g refl

sound : (r : Reader) (bytes : List ℕ) → Sound r bytes (progress r bytes)
unfolding progress brings body_brings
sound r bytes = either (ltb (wanted r.place) (length bytes)) (λ e. bad) (λ e. at_place r.place)
  where
    at_place : (p : Place) → Sound r bytes (brings p r bytes)
    at_place place·.Start = goes (start refl) (by_record _)
    at_place (place·.Body g) =
        either (ltb (length bytes) (body_of g)) (λ e. goes (cut refl) (by_record _))
        (λ e. either (ltb largest (r.at + 1 + body_of g)) (λ f. bad) (λ f. goes (whole {g = g} (ltb-false _ _ e) refl (ltb-false _ _ f)) (by_record _)))
    at_place place·.Done = bad

as_brought : {r : Reader} {bytes : List ℕ} {next : Reader} {came : Came} {then : Result Record RLNCError} → Sound r bytes (Ok (brought_by next came then)) → Brought r bytes next came
as_brought (goes b o) = b

as_opened : {r : Reader} {bytes : List ℕ} {next : Reader} {came : Came} {then : Result Record RLNCError} → Sound r bytes (Ok (brought_by next came then)) → Opened next.place then
as_opened (goes b o) = o

no_other : {r : Reader} {bytes : List ℕ} {a : RLNCError} → Sound r bytes (Err a) → a ≡ BadState
no_other bad = refl

module _ (r : Reader) (bytes : List ℕ) where
  pub brought : {next : Reader} {came : Came} {then : Result Record RLNCError} → progress r bytes ≡ Ok (brought_by next came then) → Brought r bytes next came
  brought e = as_brought (subst (Sound r bytes) e (sound r bytes))

  pub opens : {next : Reader} {came : Came} {then : Result Record RLNCError} → progress r bytes ≡ Ok (brought_by next came then) → Opened next.place then
  opens e = as_opened (subst (Sound r bytes) e (sound r bytes))

  pub only_bad : {a : RLNCError} → progress r bytes ≡ Err a → a ≡ BadState
  only_bad e = no_other (subst (Sound r bytes) e (sound r bytes))

  pub body_came : {next : Reader} {came : Came} {then : Result Record RLNCError} → progress r bytes ≡ Ok (brought_by next came then) → body_in came ≤ length bytes
  unfolding body_in
  body_came e = there (brought e)
    where
      there : {next : Reader} {came : Came} → Brought r bytes next came → body_in came ≤ length bytes
      there (start h) = omega arith
      there (whole h k l) = h
      there (cut h) = omega arith
