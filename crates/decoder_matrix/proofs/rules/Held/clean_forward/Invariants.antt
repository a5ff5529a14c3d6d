-- The rows are what rule 1 makes of them for the columns below i.
use Rattle.field.specs.FieldOf.{field_of}
use Rattle.linear.specs.Rows.{forward}
use Rattle.decoder_matrix.specs.Steps.{Applied}
use Rattle.decoder_matrix.proofs.rules.Held.clean_forward.Given as goal

abbrev pub invariant-loop-i : goal.invariant-loop-i
invariant-loop-i l = Applied (forward (field_of l.f) l.i) l.initial.self l.self
