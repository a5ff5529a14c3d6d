-- The sizes of a block: k pieces of L bytes.
use Rattle.std.specs.Prelude.{Bool, ◌&&◌, ◌||◌, not, ℕ, eqb, ltb}

-- "SizeOverLimit: k over 256, L over 4,096"
unfoldable pub over_limit : ℕ → ℕ → Bool
over_limit k L = ltb 256 k || ltb 4096 L

-- the sizes of a record that is not in a bad state: within the limits, and neither is 0
unfoldable pub sized : ℕ → ℕ → Bool
sized k L = not (eqb k 0) && (not (eqb L 0) && not (over_limit k L))
