-- `rows::scale`: the first i bytes are those of the row scaled, the others as they were.
use Rattle.std.proofs.Common.{◌≡◌}
use Rattle.galois.specs.FieldLaws.{FieldLaws}
use Rattle.galois.specs.Multiples.{multiples_of}
use Rattle.linear.specs.Rows.{scale_row}
use Rattle.rows.proofs.Turned.{Turned}
use Rattle.rows.proofs.scale.Given as goal

abbrev pub invariant-loop-b : goal.invariant-loop-b
invariant-loop-b l = (𝓕 : FieldLaws) → l.m ≡ multiples_of 𝓕 l.q → Turned l.b-index (scale_row 𝓕 l.q l.initial.vec) l.initial.vec l.vec
