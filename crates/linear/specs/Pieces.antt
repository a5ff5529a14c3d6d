-- The paper's section 'Pieces', over any field.
use Rattle.std.specs.Prelude.{◌≡◌, List, [], ◌∷◌, ◌++◌, map, ℕ, ◌+◌, ◌<◌, length, get_or, take, replicate}
use Rattle.galois.specs.Gf.{◌⊕◌}
use Rattle.galois.specs.FieldLaws.{FieldLaws}
use Rattle.linear.specs.All.{Bytes}
use Rattle.linear.specs.Rows.{add_multiple}

-- "A piece is k coefficients, then L payload bytes."
pub record Piece (k L : ℕ) (piece : List ℕ) : Type 0 where
  pub size : length piece ≡ k + L
  pub bytes : Bytes piece

-- byte j of each row
unfoldable pub column : ℕ → List (List ℕ) → List ℕ
column j rows = map (λ row. get_or row j 0) rows

module _ (𝓕 : FieldLaws) where
  -- the sum of the products of like entries, as far as both lists go
  unfoldable pub dot : List ℕ → List ℕ → ℕ
  dot [] v = 0
  dot (x ∷ u) [] = 0
  dot (x ∷ u) (y ∷ v) = 𝓕.mul x y ⊕ dot u v

  -- "truthful for a block if each payload byte is the sum of coefficient times the same byte of each block piece"
  unfoldable pub Truthful : ℕ → ℕ → List (List ℕ) → List ℕ → Type 0
  Truthful k L block piece = (j : ℕ) → j < L → get_or piece (k + j) 0 ≡ dot (take k piece) (column j block)

  -- rows of n bytes, each times its number, added up
  unfoldable pub combine : ℕ → List ℕ → List (List ℕ) → List ℕ
  combine n [] rows = replicate n 0
  combine n (c ∷ cs) [] = replicate n 0
  combine n (c ∷ cs) (r ∷ rs) = add_multiple 𝓕 c r (combine n cs rs)

  -- a coded piece: the vector, then the block's pieces combined by it
  unfoldable pub encode : ℕ → List (List ℕ) → List ℕ → List ℕ
  encode L block vector = vector ++ combine L vector block

  -- "Recoding m pieces with m numbers applies those numbers to the whole pieces, coefficients included."
  unfoldable pub recode : ℕ → List (List ℕ) → List ℕ → List ℕ
  recode width pieces numbers = combine width numbers pieces
