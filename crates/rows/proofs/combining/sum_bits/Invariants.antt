-- `rows::combining::sum_bits`: the row holds the combination by the numbers without their low bits.
use Rattle.std.proofs.Common.{◌≡◌, length}
use Rattle.field.specs.FieldOf.{field_of}
use Rattle.linear.specs.Buffer.{rows_of}
use Rattle.linear.specs.Pieces.{combine}
use Rattle.rows.proofs.CombineLaws.{above}
use Rattle.rows.proofs.combining.sum_bits.Given as goal

abbrev pub invariant-loop-bit : goal.invariant-loop-bit
invariant-loop-bit l =
    l.out ≡ combine (field_of l.f) (length l.fn.out) (above l.bit l.numbers) (rows_of (length l.fn.out) (length l.numbers) l.rows)
