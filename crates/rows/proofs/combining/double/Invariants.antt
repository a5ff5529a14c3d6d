-- `rows::combining::double`: the first bytes are those of the row times x, the others as they were.
use Rattle.field.specs.FieldOf.{field_of}
use Rattle.linear.specs.Rows.{scale_row}
use Rattle.rows.proofs.Turned.{Turned}
use Rattle.rows.proofs.combining.double.Given as goal

abbrev pub invariant-loop-b : goal.invariant-loop-b
invariant-loop-b l = Turned l.b-index (scale_row (field_of l.f) 2 l.initial.row) l.initial.row l.row
