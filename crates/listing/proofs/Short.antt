-- How long the lines of numbers are: a number has at most 20 digits.
-- Assumes nothing.
use Prim.Native.Nat.{ℕ, ◌≤◌}
use native.Mathlib.Omega.{arith}
use lib.ListN.{length, length-append}
use Rattle.listing.specs.Lines.{piece_line, end_line, stop_line}
use Rattle.listing.proofs.Decimal.{decimal_short}

pub piece_short : (n answer rows taken : ℕ) → length (piece_line n answer rows taken) ≤ 84
unfolding piece_line
piece_short n answer rows taken =
    simp length-append (omega (arith, decimal_short n, decimal_short answer, decimal_short rows, decimal_short taken))

pub end_short : (answer size repeats : ℕ) → length (end_line answer size repeats) ≤ 84
unfolding end_line
end_short answer size repeats = simp length-append (omega (arith, decimal_short answer, decimal_short size, decimal_short repeats))

pub stop_short : (number at : ℕ) → length (stop_line number at) ≤ 84
unfolding stop_line
stop_short number at = simp length-append (omega (arith, decimal_short number, decimal_short at))
