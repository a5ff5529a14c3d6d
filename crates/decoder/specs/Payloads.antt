-- The block that a buffer of k rows holds, each of k coefficients and L bytes of payload: the payloads in row order.
use Rattle.std.specs.Prelude.{List, map, ℕ, ◌+◌, drop}
use Rattle.linear.specs.Buffer.{rows_of, flat}
use Rattle.decoder.specs.declared.block_in.BlockIn.{BlockIn}

abbrev pub block_at : ℕ → ℕ → List ℕ → List ℕ
block_at k L elements = flat (map (drop k) (rows_of (k + L) k elements))

abbrev pub bytes : BlockIn → List ℕ
bytes b = block_at b.k b.len b.elements.now
