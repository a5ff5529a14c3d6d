-- A lent buffer as rows.
use Rattle.std.specs.Prelude.{◌≡◌, List, [], ◌∷◌, ◌++◌, ℕ, zero, suc, ◌-◌, ◌*◌, length, take, drop, replicate}

-- the n rows of `width` bytes at the front of a buffer
unfoldable pub rows_of : ℕ → ℕ → List ℕ → List (List ℕ)
rows_of width zero buffer = []
rows_of width (suc n) buffer = take width buffer ∷ rows_of width n (drop width buffer)

-- the bytes of row i
abbrev pub row_at : ℕ → ℕ → List ℕ → List ℕ
row_at width i buffer = take width (drop (i * width) buffer)

-- the buffer with a row in place of row i
abbrev pub put_row : ℕ → ℕ → List ℕ → List ℕ → List ℕ
put_row width i row buffer = take (i * width) buffer ++ (row ++ drop width (drop (i * width) buffer))

-- rows one after the other
unfoldable pub flat : List (List ℕ) → List ℕ
flat [] = []
flat (r ∷ rs) = r ++ flat rs

-- a buffer of k rows of `width` bytes with these rows held: then zeros up to k rows, and the bytes behind them stay
abbrev pub holding : ℕ → ℕ → List (List ℕ) → List ℕ → List ℕ
holding k width rows buffer = flat rows ++ (replicate ((k - length rows) * width) 0 ++ drop (k * width) buffer)

-- the buffer `old` has become `new`: its first n rows are those wanted, and the bytes behind them stay
pub record Ruled (width n : ℕ) (old new : List ℕ) (want : List (List ℕ)) : Type 0 where
  pub rows : rows_of width n new ≡ want
  pub rest : drop (n * width) new ≡ drop (n * width) old
