-- The rows below j are those of the cleared range, the others as they were.
use Rattle.std.proofs.Common.{◌≡◌, ◌≤◌}
use Rattle.field.specs.FieldOf.{field_of}
use Rattle.decoder_matrix.specs.Steps.{rows_of_held, clear_range}
use Rattle.decoder_matrix.proofs.Range.{Rowed}
use Rattle.decoder_matrix.proofs.rules.Held.clear_rows.Given as goal

abbrev pub invariant-loop-j : goal.invariant-loop-j
invariant-loop-j l = record {
  from : l.fn.rows.start ≤ l.j-iterator.start;
  inside : l.j-iterator.start ≤ l.j-iterator.end;
  to : l.j-iterator.end ≡ l.fn.rows.end;
  rowed :
      Rowed l.fn.self.matrix.cols l.fn.self.matrix.rows l.j-iterator.start
      (clear_range (field_of l.f) l.fn.rows.start l.fn.rows.end l.i (rows_of_held l.fn.self)) l.fn.self.elements.now l.elements;
}
