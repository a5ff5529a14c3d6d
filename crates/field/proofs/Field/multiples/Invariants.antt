-- The loop of `field::Field::multiples`: the multiples below i stand in the array.
use Rattle.field.specs.FieldOf.{field_of}
use Rattle.field.proofs.Doubled.{Begun}
use Rattle.field.proofs.Field.multiples.Given as goal

abbrev pub invariant-loop-i : goal.invariant-loop-i
invariant-loop-i l = Begun (field_of l.fn.self) l.fn.q l.i l.m
