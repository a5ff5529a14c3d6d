-- How large the listed sizes are.
-- Assumes nothing.
use Prim.Native.Nat.{ℕ, ◌*◌, ◌≤◌}
use native.Mathlib.Nat.{mul-le-mul_right}
use native.Mathlib.Omega.{arith}
use Rattle.stream.specs.declared.Geometry.{Geometry}
use Rattle.stream.specs.declared.Geometry.TheVariants.{Of3By2, Of16By240, Of32By480}
use Rattle.stream.specs.Geometries.{pieces_of, body_of}
use Rattle.stored.specs.Forms.{matrix_size}

pub few_pieces : (g : Geometry) → pieces_of g ≤ 32
few_pieces Of3By2 = omega arith
few_pieces Of16By240 = omega arith
few_pieces Of32By480 = omega arith

pub small : (g : Geometry) → matrix_size g ≤ 16384
small Of3By2 = omega arith
small Of16By240 = omega arith
small Of32By480 = omega arith

-- rows held lie within the matrix
pub inside : (g : Geometry) {rows : ℕ} → rows ≤ pieces_of g → rows * body_of g ≤ matrix_size g
inside g h = mul-le-mul_right (body_of g) h
