-- The piece length is rounded up, so that the data and its marker fit, and the padded block is k pieces long.
-- Assumes nothing.
use mathlib.Core.Path.{◌≡◌, sym, ap, ◌∙◌, subst}
use mathlib.Core.List.{List}
use Prim.Native.Nat.{ℕ, ◌+◌, ◌-◌, ◌*◌, ◌/◌, ◌<◌}
use native.Mathlib.Nat.{add-div_right, lt-mul-div-succ}
use native.Mathlib.Omega.{arith}
use lib.ListN.{length, length-append, length-replicate}
use Rattle.block.specs.Padding.{piece_length, filled, padded}

pub round_up : (n k : ℕ) → 0 < k → piece_length n k ≡ n / k + 1
unfolding piece_length
round_up n k h =
    let e : n + 1 + (k - 1) ≡ n + k = omega arith in
    ap (λ (m : ℕ). m / k) e ∙ add-div_right n h

-- the marker has its place
pub marker_fits : (n k : ℕ) → 0 < k → n < k * piece_length n k
marker_fits n k h = subst (λ (l : ℕ). n < k * l) (sym (round_up n k h)) (lt-mul-div-succ n h)

pub length_filled : (M size : ℕ) (bytes : List ℕ) → length bytes < size → length (filled M size bytes) ≡ size
unfolding filled
length_filled M size bytes h = simp (length-append, length-replicate) (omega arith)

pub length_padded : (M k : ℕ) (bytes : List ℕ) → 0 < k → length (padded M k bytes) ≡ k * piece_length (length bytes) k
unfolding padded
length_padded M k bytes h = length_filled M (k * piece_length (length bytes) k) bytes (marker_fits (length bytes) k h)
