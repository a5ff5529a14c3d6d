-- `rows::add_multiple`: the first i bytes are those of the sum, the others as they were.
use Rattle.std.proofs.Common.{◌≡◌}
use Rattle.galois.specs.FieldLaws.{FieldLaws}
use Rattle.galois.specs.Multiples.{multiples_of}
use Rattle.linear.specs.Rows.{add_multiple}
use Rattle.rows.proofs.Turned.{Turned}
use Rattle.rows.proofs.add_multiple.Given as goal

abbrev pub invariant-loop-i : goal.invariant-loop-i
invariant-loop-i l = (𝓕 : FieldLaws) → l.m ≡ multiples_of 𝓕 l.q → Turned l.i (add_multiple 𝓕 l.q l.src l.initial.dst) l.initial.dst l.dst
