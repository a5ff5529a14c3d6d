-- The words of demand 3, over any field: blocks of one size, and when no other block agrees with the pieces taken. The kernel of the
-- coefficients is what completeness is proved by.
use Rattle.std.specs.Prelude.{◌≡◌, ◌≢◌, List, ℕ, length, get_or}
use Rattle.galois.specs.FieldLaws.{FieldLaws}
use Rattle.linear.specs.All.{All, Bytes}
use Rattle.linear.specs.Pieces.{dot, Truthful}

-- a block: k pieces of L bytes
pub record Block (k L : ℕ) (block : List (List ℕ)) : Type 0 where
  pub count : length block ≡ k
  pub sizes : All (λ row. length row ≡ L) block
  pub bytes : All Bytes block

module _ (𝓕 : FieldLaws) where
  -- the block agrees with all the pieces
  unfoldable pub Agrees : ℕ → ℕ → List (List ℕ) → List (List ℕ) → Type 0
  Agrees k L pieces block = All (Truthful 𝓕 k L block) pieces

  -- "no other block of that size agrees with all pieces"
  unfoldable pub Unique : ℕ → ℕ → List (List ℕ) → List (List ℕ) → Type 0
  Unique k L pieces block = (other : List (List ℕ)) → Block k L other → Agrees k L pieces other → other ≡ block

  -- the row's coefficients, multiplied with the vector, add up to zero
  unfoldable pub Kills : List ℕ → List ℕ → Type 0
  Kills vector row = dot 𝓕 row vector ≡ 0

  -- a vector of k bytes, not all zero, in the kernel of the rows
  pub record Kernel (k : ℕ) (rows : List (List ℕ)) : Type 0 where
    pub vector : List ℕ
    pub size : length vector ≡ k
    pub bytes : Bytes vector
    pub place : ℕ
    pub nonzero : get_or vector place 0 ≢ 0
    pub killed : All (Kills vector) rows

  -- the kernel holds the zero vector alone
  unfoldable pub Trivial : ℕ → List (List ℕ) → Type 0
  Trivial k rows = (v : List ℕ) → length v ≡ k → Bytes v → All (Kills v) rows → (i : ℕ) → get_or v i 0 ≡ 0
