-- The rows kept of those before j stand at the front, and those from j on are as they were.
use Rattle.std.proofs.Common.{◌≡◌}
use Rattle.decoder_matrix.specs.Matrix.{k_of}
use Rattle.decoder_matrix.proofs.Keeping.{Keeping}
use Rattle.decoder_matrix.proofs.rules.Held.remove_zero_rows.Given as goal

abbrev pub invariant-loop-j : goal.invariant-loop-j
invariant-loop-j l = record {
  matrix : l.self.matrix ≡ l.initial.self.matrix;
  lent : l.self.elements.ghost_name ≡ l.initial.self.elements.ghost_name;
  keeping :
      Keeping l.initial.self.matrix.cols l.initial.self.matrix.rows (k_of l.initial.self.matrix) l.j l.kept l.initial.self.elements.now
      l.self.elements.now;
}
