-- An engine: a way to take a piece, with the few facts that demand 3 asks of it. The row rules are one; another is one more instance.
use Rattle.std.specs.Prelude.{◌≡◌, ◌≢◌, ◌⊎◌, List, [], ◌∷◌, ℕ, ◌+◌, ◌≤◌, ◌<◌, length, get_or}
use Rattle.galois.specs.FieldLaws.{FieldLaws}
use Rattle.linear.specs.All.{All}
use Rattle.linear.specs.Rows.{entry, add_multiple, scale_row}
use Rattle.linear.specs.Pieces.{Piece}

-- a property of rows that sums and multiples keep
pub record Subspace (𝓕 : FieldLaws) (P : List ℕ → Type 0) : Type 0 where
  pub nil : P []
  pub add : (q : ℕ) (src dst : List ℕ) → P src → P dst → P (add_multiple 𝓕 q src dst)
  pub scale : (q : ℕ) (r : List ℕ) → P r → P (scale_row 𝓕 q r)

-- the row has `width` entries, or is none: what is read behind the last row
abbrev pub Fits : ℕ → List ℕ → Type 0
Fits width r = (length r ≡ width) ⊎ (r ≡ [])

-- the first k entries are zero
abbrev pub Empty : ℕ → List ℕ → Type 0
Empty k r = (c : ℕ) → c < k → get_or r c 0 ≡ 0

-- the first k columns are those of the identity
pub record Identity (k : ℕ) (rows : List (List ℕ)) : Type 0 where
  pub off : (r c : ℕ) → c < k → r ≢ c → entry rows r c ≡ 0
  pub on : (c : ℕ) → c < k → entry rows c c ≡ 1

abbrev pub Step : Type 0
Step = List (List ℕ) → List ℕ → List (List ℕ)

-- the pieces that a fresh decoder took, the last first, and its rows. A piece that comes when there are k rows is refused, and not taken
pub data Taken (step : Step) (k L : ℕ) : List (List ℕ) → List (List ℕ) → Type 0 where
  fresh : Taken step k L [] []
  took : {pieces rows : List (List ℕ)} (piece : List ℕ) → Piece k L piece → length rows ≢ k → Taken step k L pieces rows
      → Taken step k L (piece ∷ pieces) (step rows piece)

-- `Held` is what the engine itself knows of its rows
pub record Engine (𝓕 : FieldLaws) (k L : ℕ) (step : Step) (Held : List (List ℕ) → Type 0) : Type 1 where
  pub held_fresh : Held []
  pub held_step : (rows : List (List ℕ)) (piece : List ℕ) → Held rows → length rows ≢ k → Piece k L piece → Held (step rows piece)
  pub count : (rows : List (List ℕ)) → Held rows → length rows ≤ k
  -- k rows are the identity's
  pub full : (rows : List (List ℕ)) → Held rows → length rows ≡ k → Identity k rows
  -- each new row combines the old ones and the piece
  pub into : {P : List ℕ → Type 0} → Subspace 𝓕 P → (rows : List (List ℕ)) (piece : List ℕ) → Held rows → Piece k L piece
      → All P rows → P piece → All P (step rows piece)
  -- and the other way, up to rows with no coefficient
  pub back : {P : List ℕ → Type 0} → Subspace 𝓕 P → ((r : List ℕ) → Fits (k + L) r → Empty k r → P r)
      → (rows : List (List ℕ)) (piece : List ℕ) → Held rows → Piece k L piece → All P (step rows piece) → P piece × All P rows
