-- The operations and laws of the field named.
use Rattle.galois.specs.FieldLaws.{FieldLaws}
use Rattle.gf256.proofs.Known.{fips}
use Rattle.field.specs.declared.Field.{Field}
use Rattle.field.specs.declared.Field.TheVariants.{Fips197}

abbrev pub field_of : Field → FieldLaws
field_of Fips197 = fips
