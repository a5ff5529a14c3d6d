-- What rule 2 for the columns below i makes of the rows as they are, rule 2 for all columns makes of the rows at entry.
use Rattle.std.proofs.Common.{◌≡◌}
use Rattle.field.specs.FieldOf.{field_of}
use Rattle.linear.specs.Rows.{backward}
use Rattle.decoder_matrix.specs.declared.rules.Held.{Held}
use Rattle.decoder_matrix.specs.Steps.{Applied}
use Rattle.decoder_matrix.proofs.rules.Held.clean_backward.Given as goal

abbrev pub invariant-loop-i : goal.invariant-loop-i
invariant-loop-i l = record {
  many : l.self.matrix.rows ≡ l.initial.self.matrix.rows;
  left : (last : Held) → Applied (backward (field_of l.f) l.i) l.self last → Applied (backward (field_of l.f) l.initial.self.matrix.rows) l.initial.self last;
}
