-- The field that the contracts name has the operations of FIPS 197's polynomial, and a field of one case is that case.
-- Assumes nothing.
use mathlib.Core.Path.{◌≡◌, refl}
use Rattle.galois.specs.Gf.{mul, inv}
use Rattle.gf256.specs.Fips197.{polynomial}
use Rattle.field.specs.declared.Field.{Field}
use Rattle.field.specs.declared.Field.TheVariants.{Fips197}
use Rattle.field.specs.FieldOf.{field_of}

-- what a reader of the contracts has to know of `field_of`
pub fips_mul : (field_of Fips197).mul ≡ mul polynomial
fips_mul = refl

pub fips_inv : (field_of Fips197).inv ≡ inv polynomial
fips_inv = refl

-- Named in docs/PORT.md; no proof here cites it.

pub named : (f : Field) → Fips197 ≡ f
named Fips197 = refl
