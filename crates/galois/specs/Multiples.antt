-- The eight multiples of a factor q: by 1, x, x^2, .., x^7. A product q · b is the sum of those that the bits of b choose (proofs/Multiples).
use Rattle.std.specs.Prelude.{List, [], ◌∷◌, map, ℕ}
use Rattle.galois.specs.FieldLaws.{FieldLaws}

unfoldable pub multiples_of : FieldLaws → ℕ → List ℕ
multiples_of F q = map (F.mul q) (1 ∷ 2 ∷ 4 ∷ 8 ∷ 16 ∷ 32 ∷ 64 ∷ 128 ∷ [])
