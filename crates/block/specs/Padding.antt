-- The paper's section 'Padding', for any marker M.
use Rattle.std.specs.Prelude.{◌≡◌, ◌≢◌, List, ◌∷◌, ◌++◌, ℕ, ◌+◌, ◌-◌, ◌*◌, ◌/◌, ◌<◌, length, get_or, take, replicate}

-- the marker of the port
abbrev pub marker : ℕ
marker = 0x81

-- "For n data bytes, L is (n + 1) / k rounded up."
unfoldable pub piece_length : ℕ → ℕ → ℕ
piece_length n k = (n + 1 + (k - 1)) / k

-- "The block is the data, M, then zeros": to a block of `size` bytes
unfoldable pub filled : ℕ → ℕ → List ℕ → List ℕ
filled M size bytes = bytes ++ (M ∷ replicate (size - (length bytes + 1)) 0)

-- "to k·L"
unfoldable pub padded : ℕ → ℕ → List ℕ → List ℕ
padded M k bytes = filled M (k * piece_length (length bytes) k) bytes

-- i is the index of the last M
pub record LastMarker (M : ℕ) (block : List ℕ) (i : ℕ) : Type 0 where
  pub inside : i < length block
  pub here : get_or block i 0 ≡ M
  pub last : (j : ℕ) → i < j → j < length block → get_or block j 0 ≢ M

-- "No M, or the last M at index 0, is 11. A nonzero byte after it is 11." "Only these three cases break the padding rule"
pub data Breaks (M : ℕ) (block : List ℕ) : Type 0 where
  absent : ((i : ℕ) → i < length block → get_or block i 0 ≢ M) → Breaks M block
  first : LastMarker M block 0 → Breaks M block
  tail : (i j : ℕ) → LastMarker M block i → i < j → get_or block j 0 ≢ 0 → Breaks M block

-- "Otherwise its index is the length, and the bytes before it are the block's data."
pub record Carries (M : ℕ) (block bytes : List ℕ) : Type 0 where
  pub marked : LastMarker M block (length bytes)
  pub nonempty : 0 < length bytes
  pub zeros : (j : ℕ) → length bytes < j → get_or block j 0 ≡ 0
  pub front : take (length bytes) block ≡ bytes
