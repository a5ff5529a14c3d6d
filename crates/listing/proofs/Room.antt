-- What `setjoin` lends is enough for every geometry: a matrix of the largest, and room for its block.
-- Assumes nothing.
use mathlib.Core.Path.{◌≡◌}
use Prim.Native.Nat.{ℕ, ◌*◌, ◌≤◌}
use native.Mathlib.Omega.{arith}
use borrow.Author.Tests.{le-ltb}
use Rattle.std.specs.Prelude.{Ok}
use Rattle.block.specs.Sizes.{over_limit}
use Rattle.stream.specs.declared.Geometry.{Geometry}
use Rattle.stream.specs.declared.Geometry.TheVariants.{Of3By2, Of16By240, Of32By480}
use Rattle.stream.specs.Geometries.{pieces_of, length_of, body_of}
use Rattle.decoder.specs.Entries.{new_refusal}
use Rattle.listing.specs.Listing.{matrix_length, block_room}

pub matrix_fits : (g : Geometry) → pieces_of g * body_of g ≤ matrix_length
matrix_fits Of3By2 = omega arith
matrix_fits Of16By240 = omega arith
matrix_fits Of32By480 = omega arith

pub block_fits : (g : Geometry) → pieces_of g * length_of g ≤ block_room
block_fits Of3By2 = omega arith
block_fits Of16By240 = omega arith
block_fits Of32By480 = omega arith

-- k·F bytes are enough for a new decoder
pub new_fits : (g : Geometry) (room : ℕ) → pieces_of g * body_of g ≤ room → new_refusal (length_of g) (pieces_of g) room ≡ Ok tt
unfolding new_refusal over_limit
new_fits Of3By2 room h = rw (le-ltb room (3 * 5) h)
new_fits Of16By240 room h = rw (le-ltb room (16 * 256) h)
new_fits Of32By480 room h = rw (le-ltb room (32 * 512) h)
