-- A property of each element of a list.
use Rattle.std.specs.Prelude.{List, [], ◌∷◌, ℕ, ◌<◌}

pub data All {A : Type 0} (P : A → Type 0) : List A → Type 0 where
  none : All P []
  more : {x : A} {xs : List A} → P x → All P xs → All P (x ∷ xs)

-- each entry is a byte
abbrev pub Bytes : List ℕ → Type 0
Bytes row = All (λ x. x < 256) row
