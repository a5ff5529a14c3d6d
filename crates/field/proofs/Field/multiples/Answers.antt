-- `field::Field::multiples` meets its contract: its loop begins with the factor, and each turn stores the next multiple.
use Rattle.std.proofs.Common.{arith}
use Rattle.field.specs.FieldOf.{field_of}
use Rattle.field.proofs.Doubled.{begins, goes_on}
use Rattle.field.proofs.Field.multiples.Goals as goal

pub loop-i-init : goal.loop-i-init
loop-i-init c = begins (field_of c.args.self) c.args.q (omega arith)

pub loop-i-preserved : goal.loop-i-preserved
loop-i-preserved c =
    goes_on (field_of c.args.self) c.args.q c.loop-i.i c.loop-i.auto.i c.loop-i-test.true c.loop-i.invariant c.times_x.ensures
