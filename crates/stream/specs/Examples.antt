-- Small streams and what they are.
use Rattle.std.specs.Prelude.{◌≡◌, List, [], ◌∷◌, ◌++◌, ℕ}
use Rattle.answers.specs.declared.RLNCError.TheVariants.{UnknownKind, CutRecord, MixedKinds}
use Rattle.stream.specs.declared.Geometry.TheVariants.{Of3By2}
use Rattle.stream.specs.Streams.{piece, end, stop, stream_of}

-- a piece of 3 by 2, and its record
abbrev pub body : List ℕ
body = 0 ∷ 1 ∷ 0 ∷ 0x63 ∷ 0x64 ∷ []

abbrev pub whole : List ℕ
whole = 0x11 ∷ body

pub record Examples : Type 0 where
  pub nothing : stream_of [] ≡ stop CutRecord 0
  pub end_alone : stream_of (0x01 ∷ []) ≡ end
  -- "Nothing behind the end record is read."
  pub behind_the_end : stream_of (whole ++ 0x01 ∷ 0xff ∷ []) ≡ piece Of3By2 body end
  -- "the input's length if the end record is missing"
  pub no_end : stream_of whole ≡ piece Of3By2 body (stop CutRecord 6)
  pub cut_short : stream_of (whole ++ 0x11 ∷ 0 ∷ []) ≡ piece Of3By2 body (stop CutRecord 6)
  -- "a second geometry 26, decided before the body's length"
  pub second_geometry : stream_of (whole ++ 0x12 ∷ []) ≡ piece Of3By2 body (stop MixedKinds 6)
  pub unlisted : stream_of (whole ++ 0x14 ∷ []) ≡ piece Of3By2 body (stop UnknownKind 6)
