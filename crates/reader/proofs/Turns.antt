-- The turns of the reading: what a body brings, where the reader goes, and that every input of fewer than 2^64 - 1 bytes is read in no more turns than it
-- has bytes, and one.
-- Assumes nothing.
use mathlib.Core.Path.{◌≡◌, refl, ap, ◌∙◌, subst}
use mathlib.Core.Bool.{Bool, true, false}
use mathlib.Core.List.{List, [], ◌∷◌}
use Prim.Native.Nat.{ℕ, zero, suc, ◌+◌, ◌≤◌, ◌<◌}
use native.Mathlib.Nat.{not-suc-le-zero}
use native.Mathlib.Omega.{arith}
use borrow.Author.Tests.{ltb-true, ltb-false}
use lib.Dec.{ltb}
use lib.ListN.{length, take, drop, length-take, length-drop}
use lib.Seq.{drop-drop}
use Rattle.std.proofs.lemmas.List.{drop-take}
use Rattle.std.specs.Prelude.{Option, Some, None, Result, Ok, Err}
use Rattle.answers.specs.declared.RLNCError.{RLNCError}
use Rattle.answers.specs.declared.RLNCError.TheVariants.{CutRecord}
use Rattle.stream.specs.declared.Geometry.{Geometry}
use Rattle.stream.specs.declared.Record.{Record}
use Rattle.stream.specs.declared.Record.TheVariants as record·
use Rattle.stream.specs.Geometries.{body_of}
use Rattle.stream.specs.Streams.{largest}
use Rattle.reader.specs.declared.Place.TheVariants as place·
use Rattle.reader.specs.declared.Reader.{Reader}
use Rattle.reader.specs.declared.Came.{Came}
use Rattle.reader.specs.declared.Came.TheVariants as came·
use Rattle.reader.specs.Reading.{started, wanted, opened_by, place_by, brought_by, on, brings, progress}
use Rattle.reader.specs.Pump.{Reads, done, turn}
use Rattle.reader.proofs.Reading.{body_cut, body_whole, place_decides}

-- ---- what is wanted, brought

abbrev pub body_at : Geometry → Option Geometry → ℕ → Reader
body_at g so_far at = record { place = place·.Body g; seen = so_far; at = at }

module _ (g : Geometry) (so_far : Option Geometry) (at : ℕ) (left : List ℕ) where
  decided : progress (body_at g so_far at) (take (body_of g + 1) left) ≡ brings (place·.Body g) (body_at g so_far at) (take (body_of g + 1) left)
  unfolding wanted
  decided = place_decides (body_at g so_far at) (take (body_of g + 1) left) (simp length-take (omega arith))

  pub brings_cut : length left < body_of g → progress (body_at g so_far at) (take (body_of g + 1) left) ≡ Ok (on so_far at came·.Cut (Err CutRecord))
  unfolding brings
  brings_cut h = decided ∙ body_cut g (body_at g so_far at) (take (body_of g + 1) left) (simp length-take (omega arith))

  pub brings_whole : body_of g ≤ length left → at + 1 + body_of g ≤ largest → progress (body_at g so_far at) (take (body_of g + 1) left)
      ≡ Ok (on (Some g) (at + 1 + body_of g) (came·.Piece g) (opened_by (Some g) (take 1 (drop (body_of g) left))))
  unfolding brings
  brings_whole h k =
      decided ∙ body_whole g (body_at g so_far at) (take (body_of g + 1) left) (simp length-take (omega arith)) k
      ∙ ap (λ (l : List ℕ). Ok (on (Some g) (at + 1 + body_of g) (came·.Piece g) (opened_by (Some g) l))) (drop-take (body_of g) 1 left)

-- ---- the whole input

abbrev Within : ℕ → Reader → List ℕ → Type 0
Within most r left = (n : ℕ) × (n ≤ most) × Reads n r left

-- nothing is wanted behind the end, or where the stream stopped
ends_here : {most : ℕ} (so_far : Option Geometry) (at : ℕ) (left : List ℕ) → Within most (record { place = place·.Done; seen = so_far; at = at }) left
unfolding wanted
ends_here so_far at left = (0, omega arith, done refl)

-- from a kind byte on, if the body that it opens can be read
from_opened : (so_far : Option Geometry) (at : ℕ) (rest : List ℕ)
    → ((g : Geometry) (kind : ℕ) (later : List ℕ) → rest ≡ kind ∷ later → Within (suc (length later)) (body_at g so_far at) later)
    → (r : Result Record RLNCError) → opened_by so_far (take 1 rest) ≡ r → Within (length rest) (record { place = place_by r; seen = so_far; at = at }) (drop 1 rest)
unfolding opened_by place_by
from_opened so_far at [] from (Ok (record·.Piece g)) e = let z : ◌≡◌ {A = ℕ} 0 1 = cc in absurd (omega arith)
from_opened so_far at (kind ∷ later) from (Ok (record·.Piece g)) e = from g kind later refl
from_opened so_far at rest from (Ok record·.End) e = ends_here so_far at (drop 1 rest)
from_opened so_far at rest from (Err a) e = ends_here so_far at (drop 1 rest)

one_more : {most : ℕ} {r next : Reader} {came : Came} {then : Result Record RLNCError} {left : List ℕ} → (wanted r.place ≡ 0 → ⊥)
    → progress r (take (wanted r.place) left) ≡ Ok (brought_by next came then) → Within most next (drop (wanted r.place) left) → Within (suc most) r left
one_more k e later = (suc later.0, omega (arith, later.1), turn k e later.2)

wider : {few most : ℕ} {r : Reader} {left left' : List ℕ} → few ≤ most → left ≡ left' → Within few r left → Within most r left'
wider {r = r} h e w = (w.0, omega (arith, w.1), subst (Reads w.0 r) e w.2)

from_body : (f : ℕ) (g : Geometry) (so_far : Option Geometry) (at : ℕ) (left : List ℕ) → length left < f → at + 1 + length left ≤ largest
    → Within (suc (length left)) (body_at g so_far at) left
unfolding wanted place_by
from_body zero g so_far at left h l = absurd (not-suc-le-zero h)
from_body (suc f) g so_far at left h l = either (from_body f) (ltb (length left) (body_of g)) refl
  where
    some : wanted (place·.Body g) ≡ 0 → ⊥
    some e = omega arith

    either : ((g : Geometry) (so_far : Option Geometry) (at : ℕ) (left : List ℕ) → length left < f → at + 1 + length left ≤ largest → Within (suc (length left)) (body_at g so_far at) left)
        → (t : Bool) → ltb (length left) (body_of g) ≡ t → Within (suc (length left)) (body_at g so_far at) left
    either from true e =
        one_more some (brings_cut g so_far at left (ltb-true (length left) (body_of g) e)) (ends_here so_far at (drop (body_of g + 1) left))
    either from false e =
        let b : body_of g ≤ length left = ltb-false (length left) (body_of g) e in
        let size = length-drop (body_of g) left in
        one_more some (brings_whole g so_far at left b (omega arith))
        (wider (omega (arith, size)) (drop-drop 1 (body_of g) left)
        (from_opened (Some g) (at + 1 + body_of g) (drop (body_of g) left)
        (λ g' kind later q. from g' (Some g) (at + 1 + body_of g) later (omega (arith, size, ap length q)) (omega (arith, size, ap length q))) _ refl))

-- no input of fewer than 2^64 - 1 bytes is refused, and its reading ends
pub reads : (input : List ℕ) → length input < largest → Within (suc (length input)) started input
unfolding wanted brings
reads input small =
    one_more (λ e. let z : ◌≡◌ {A = ℕ} 0 1 = cc in omega arith) (place_decides started (take 1 input) (simp length-take (omega arith)))
    (from_opened None 0 input (λ g kind later e. from_body (length input) g None 0 later (omega (arith, ap length e)) (omega (arith, ap length e))) _ refl)
