-- `rows::mul_vec_by_scalar_then_add_into_vec`: zero times a row adds nothing, and one times it adds the row.
use Rattle.std.proofs.Common.{ℕ, sym, ap, ◌∙◌, arith}
use Rattle.field.specs.FieldOf.{field_of}
use Rattle.linear.specs.Rows.{add_multiple}
use Rattle.rows.proofs.RowLaws.{added_zero, added_one}
use Rattle.rows.proofs.Outcomes.{made}
use Rattle.rows.proofs.mul_vec_by_scalar_then_add_into_vec.Goals as goal

pub returns-in-0 : goal.returns-in-0
returns-in-0 c =
    let a = c.args in
    made c.if-add_into_vec-mul_vec.false
    (sym (ap (λ (q : ℕ). add_multiple (field_of a.f) q a.mul_vec.now a.add_into_vec.now) c.in-0.is
    ∙ added_zero (field_of a.f) a.mul_vec.now a.add_into_vec.now))

pub returns-in-1 : goal.returns-in-1
returns-in-1 c =
    let a = c.args in
    made c.if-add_into_vec-mul_vec.false
    (c.add_row.ensures
    ∙ sym (ap (λ (q : ℕ). add_multiple (field_of a.f) q a.mul_vec.now a.add_into_vec.now) c.in-1.is
    ∙ added_one (field_of a.f) a.mul_vec.now a.add_into_vec.now (λ i. omega (arith, c.type_inv.mul_vec i))))
