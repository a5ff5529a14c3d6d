-- The tests of the sizes, as bounds.
-- Assumes nothing.
use mathlib.Core.Path.{◌≡◌}
use mathlib.Core.Bool.{true, false, not}
use Prim.Native.Nat.{ℕ, ◌*◌, ◌≤◌, ◌<◌}
use native.Mathlib.Nat.{mul-le-mul}
use native.Mathlib.Omega.{arith}
use lib.Dec.{eqb, ltb}
use borrow.Author.Tests.{ltb-false, eqb-false, not-true}
use Rattle.linear.proofs.Choice.{and_true, or_false}
use Rattle.block.specs.Sizes.{over_limit, sized}

-- ---- the limits

pub record Limited (k L : ℕ) : Type 0 where
  pub pieces : k ≤ 256
  pub bytes : L ≤ 4096

pub limited : (k L : ℕ) → over_limit k L ≡ false → Limited k L
unfolding over_limit
limited k L e =
    let t = or_false (ltb 256 k) (ltb 4096 L) e in
    record { pieces = ltb-false 256 k t.0; bytes = ltb-false 4096 L t.1 }

-- a block of such sizes
pub block_within : (k L : ℕ) → Limited k L → k * L ≤ 1048576
block_within k L b = mul-le-mul b.pieces b.bytes

pub record Within (k L : ℕ) : Type 0 where
  pub some_pieces : 0 < k
  pub some_bytes : 0 < L
  pub limits : Limited k L

pub within : (k L : ℕ) → sized k L ≡ true → Within k L
unfolding sized
within k L e =
    let t = and_true (not (eqb k 0)) _ e in
    let u = and_true (not (eqb L 0)) _ t.1 in
    let nk : k ≡ 0 → ⊥ = eqb-false k 0 (not-true (eqb k 0) t.0) in
    let nL : L ≡ 0 → ⊥ = eqb-false L 0 (not-true (eqb L 0) u.0) in
    record { some_pieces = omega arith; some_bytes = omega arith; limits = limited k L (not-true (over_limit k L) u.1) }
