-- `rows::inplace_mul_vec_by_scalar`: zero times a row is zeros, and one times it is the row.
use Rattle.std.proofs.Common.{ℕ, sym, ap, ◌∙◌, arith}
use Rattle.field.specs.FieldOf.{field_of}
use Rattle.linear.specs.Rows.{scale_row}
use Rattle.rows.proofs.RowLaws.{scaled_zero, scaled_one}
use Rattle.rows.proofs.inplace_mul_vec_by_scalar.Goals as goal

pub returns-in-0 : goal.returns-in-0
returns-in-0 c =
    let a = c.args in
    record {
      left =
          c.clear.ensures ∙ scaled_zero (field_of a.f) a.vec.now
          ∙ ap (λ (q : ℕ). scale_row (field_of a.f) q a.vec.now) (sym c.in-0.is);
    }

pub returns-in-1 : goal.returns-in-1
returns-in-1 c =
    let a = c.args in
    record {
      left =
          sym (ap (λ (q : ℕ). scale_row (field_of a.f) q a.vec.now) c.in-1.is
          ∙ scaled_one (field_of a.f) a.vec.now (λ i. omega (arith, c.type_inv.vec i)));
    }
