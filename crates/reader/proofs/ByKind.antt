-- A kind byte tells the record, but for a body that is cut short.
-- Assumes nothing.
use mathlib.Core.Path.{◌≡◌, refl, sym, ap}
use mathlib.Core.Bool.{Bool, true, false, not}
use Rattle.std.specs.Prelude.{Option, None, Some, Result, Ok, Err}
use Prim.Native.Nat.{ℕ}
use borrow.Author.Tests.{le-ltb}
use lib.Dec.{eqb, ltb}
use Rattle.answers.specs.declared.RLNCError.{RLNCError}
use Rattle.answers.specs.declared.RLNCError.TheVariants.{CutRecord, MixedKinds}
use Rattle.linear.specs.Choice.{pick}
use Rattle.stream.specs.declared.Geometry.{Geometry}
use Rattle.stream.specs.declared.Record.{Record}
use Rattle.stream.specs.declared.Record.TheVariants.{Piece, End}
use Rattle.stream.specs.Geometries.{body_of, geometry_of}
use Rattle.stream.specs.Records.{fits_in, piece_record, kind_record}
use Rattle.reader.specs.Reading.{longest}
use Rattle.reader.proofs.Reading.{body_short}

-- a record that was opened, once so many bytes are known to stand behind its kind
abbrev pub cut_to : ℕ → Result Record RLNCError → Result Record RLNCError
cut_to b (Ok (Piece g)) = pick (ltb b (body_of g)) (Err CutRecord) (Ok (Piece g))
cut_to b (Ok End) = Ok End
cut_to b (Err e) = Err e

pub by_kind : (so_far : Option Geometry) (kind b : ℕ) → kind_record so_far kind b ≡ cut_to b (kind_record so_far kind longest)
unfolding kind_record piece_record
by_kind so_far kind b = go (eqb kind 0x01) (geometry_of kind)
  where
    fit : (g : Geometry) → pick (ltb longest (body_of g)) (Err CutRecord) (Ok (Piece g)) ≡ Ok (Piece g)
    fit g = ap (λ (t : Bool). pick t (Err CutRecord) (Ok (Piece g))) (le-ltb longest (body_of g) (body_short g))

    fitting : (g : Geometry) (fits : Bool) → pick (not fits) (Err MixedKinds) (pick (ltb b (body_of g)) (Err CutRecord) (Ok (Piece g)))
        ≡ cut_to b (pick (not fits) (Err MixedKinds) (pick (ltb longest (body_of g)) (Err CutRecord) (Ok (Piece g))))
    fitting g true = sym (ap (cut_to b) (fit g))
    fitting g false = refl

    go : (t : Bool) (o : Option Geometry) → pick t (Ok End) (piece_record so_far b o) ≡ cut_to b (pick t (Ok End) (piece_record so_far longest o))
    go true o = refl
    go false None = refl
    go false (Some g) = fitting g (fits_in so_far g)
