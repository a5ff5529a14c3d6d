-- The rows of a buffer of bytes are a block.
-- Assumes nothing.
use mathlib.Core.List.{List, [], ◌∷◌}
use Prim.Native.Nat.{ℕ, zero, suc, ◌*◌, ◌≤◌}
use lib.ListN.{length, take, drop}
use Rattle.linear.specs.All.{All, none, more, Bytes}
use Rattle.linear.specs.Blocks.{Block}
use Rattle.linear.specs.Buffer.{rows_of}
use Rattle.linear.proofs.All.{all_head, all_tail}
use Rattle.linear.proofs.Buffer.{length_rows_of, sizes_of}

take_bytes : (n : ℕ) (xs : List ℕ) → Bytes xs → Bytes (take n xs)
take_bytes zero xs h = none
take_bytes (suc n) [] h = none
take_bytes (suc n) (x ∷ xs) h = more (all_head h) (take_bytes n xs (all_tail h))

drop_bytes : (n : ℕ) (xs : List ℕ) → Bytes xs → Bytes (drop n xs)
drop_bytes zero xs h = h
drop_bytes (suc n) [] h = none
drop_bytes (suc n) (x ∷ xs) h = drop_bytes n xs (all_tail h)

pub rows_bytes : (width n : ℕ) (buffer : List ℕ) → Bytes buffer → All Bytes (rows_of width n buffer)
unfolding rows_of
rows_bytes width zero buffer h = none
rows_bytes width (suc n) buffer h = more (take_bytes width buffer h) (rows_bytes width n (drop width buffer) (drop_bytes width buffer h))

pub block_of_lem : (k L : ℕ) (buffer : List ℕ) → k * L ≤ length buffer → Bytes buffer → Block k L (rows_of L k buffer)
block_of_lem k L buffer h b = record { count = length_rows_of L k buffer; sizes = sizes_of L k buffer h; bytes = rows_bytes L k buffer b }
