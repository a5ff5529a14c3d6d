-- The field of FIPS 197: the tests of the two tables, which antt computes, make it a field; and its product is the document's.
-- Assumes nothing.
use mathlib.Core.Path.{◌≡◌, refl}
use mathlib.Core.Logic.{◌↔◌}
use Prim.Native.Nat.{ℕ, ◌<◌}
use lib.Dec.{T, lit<}
use lib.ListN.{length, get_or, take}
use Rattle.galois.specs.Gf.{xtime, times, mul, inv, product, Remainder, Inverse}
use Rattle.galois.specs.FieldLaws.{FieldLaws}
use Rattle.galois.proofs.Remainder.{remainder_exactly}
use Rattle.galois.proofs.Generator.{inverse_exactly}
use Rattle.galois.proofs.Table.{rising, every}
use Rattle.galois.proofs.Tables.{Tables, logged, placed, cycle, log_power, the_field}
use Rattle.gf256.specs.Fips197.{polynomial, generator}
use Rattle.gf256.proofs.Lists.{powers, logs}

rises : T (rising (mul polynomial generator) 1 powers)
unfolding xtime times mul powers
rises = tt

many : length powers ≡ 510
unfolding powers
many = refl

back : get_or powers 255 0 ≡ 1
unfolding powers
back = refl

fits : T (every (logged powers) 0 logs)
unfolding powers logs
fits = tt

all : length logs ≡ 256
unfolding logs
all = refl

places : T (every (placed logs) 0 (take 255 powers))
unfolding powers logs
places = tt

pub tables : Tables polynomial generator powers logs
tables = record { small = lit< tt; rises = rises; many = many; back = back; fits = fits; all = all; places = places }

abbrev pub fips : FieldLaws
fips = the_field polynomial generator powers logs tables

-- the product of two bytes is the remainder of their polynomial product by x^8 + x^4 + x^3 + x + 1, and no other number is
pub fips_product : (a b r : ℕ) → a < 256 → Remainder 0x11b (product 8 a b) r ↔ (r ≡ mul polynomial a b)
fips_product = remainder_exactly polynomial (lit< tt)

-- the inverse of a nonzero byte is the one byte whose product with it is 1
pub fips_inverse : (a b : ℕ) → 0 < a → a < 256 → Inverse polynomial a b ↔ (b ≡ inv polynomial a)
fips_inverse =
    inverse_exactly polynomial (lit< tt) generator (cycle polynomial generator powers logs tables) (λ a. get_or logs a 0)
    (log_power polynomial generator powers logs tables)
