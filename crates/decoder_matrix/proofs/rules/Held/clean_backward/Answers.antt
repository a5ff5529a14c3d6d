-- `decoder_matrix::rules::Held::clean_backward` meets its contract: at 0 no column is left.
use Rattle.std.proofs.Common.{◌≡◌, arith, refl, ◌∙◌}
use Rattle.field.specs.FieldOf.{field_of}
use Rattle.linear.specs.Rows.{backward}
use Rattle.decoder_matrix.specs.Steps.{rows_of_held}
use Rattle.decoder_matrix.proofs.Applied.{stays, as_many, as_well, and_then}
use Rattle.decoder_matrix.proofs.Passes.{backward_step}
use Rattle.decoder_matrix.proofs.rules.Held.clean_backward.Goals as goal

pub loop-i-preserved : goal.loop-i-preserved
loop-i-preserved c =
    let v = c.loop-i.invariant in
    let step = c.clear_above.ensures in
    record {
      many = as_many step ∙ v.many;
      left = λ last a. v.left last (as_well (and_then step a) (backward_step (field_of c.args.f) c.loop-i.i (rows_of_held c.loop-i.self) (omega arith)));
    }

pub returns : goal.returns
unfolding backward
returns c =
    let e : c.loop-i.i ≡ 0 = omega arith in
    c.loop-i.invariant.left c.loop-i.self (rw e (stays c.loop-i.self refl))
