-- Records of the stream, handed out as their kinds.
-- Assumes nothing.
use mathlib.Core.Path.{◌≡◌, refl, ap, ◌∙◌}
use Prim.Native.Nat.{ℕ}
use Rattle.std.specs.Prelude.{Option, None, Some, Result, Ok, Err, IsOkAnd, MatchResult, ok_or}
use Rattle.std.specs.Result.{result_unwrap_or, result_ok}
use Rattle.answers.specs.Number.{number_of}
use Rattle.answers.specs.declared.RLNCError.{RLNCError}
use Rattle.answers.specs.declared.RLNCError.TheVariants.{UnknownKind}
use Rattle.stream.specs.declared.Geometry.{Geometry}
use Rattle.stream.specs.declared.Record.{Record}
use Rattle.stream.specs.Geometries.{geometry_of}
use Rattle.stream.specs.Records.{record_kind}
use Rattle.rlnc.specs.Given.{Given}
use Rattle.rlnc.specs.Streams.{kind_or, RecordGiven}

-- reading a kind that is listed, and one that is not
pub listed : (kind : ℕ) → geometry_of kind ≡ result_ok (ok_or (geometry_of kind) UnknownKind)
listed kind = go (geometry_of kind)
  where
    go : (o : Option Geometry) → o ≡ result_ok (ok_or o UnknownKind)
    go None = refl
    go (Some g) = refl

-- what `map` leaves of a record
pub record_gave : {m : Result Record RLNCError} {c : Result ℕ RLNCError} {before r after : ℕ}
    → MatchResult m (λ x. IsOkAnd c (λ n. n ≡ record_kind x)) (λ e. c ≡ Err e) → Given c before r after → RecordGiven m before r after
unfolding kind_or
record_gave {m} {c} {before} {r} {after} s g = go m c s g
  where
    go : (m : Result Record RLNCError) (c : Result ℕ RLNCError) → MatchResult m (λ x. IsOkAnd c (λ n. n ≡ record_kind x)) (λ e. c ≡ Err e)
        → Given c before r after → RecordGiven m before r after
    go (Ok x) (Ok y) s g = record { number = g.number; stored = g.stored ∙ s }
    go (Ok x) (Err y) s g = absurd s
    go (Err x) c s g =
        record { number = g.number ∙ ap number_of s; stored = g.stored ∙ ap (λ (w : Result ℕ RLNCError). result_unwrap_or w before) s }
