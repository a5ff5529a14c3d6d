-- `decoder::Decoder::take_piece` meets its contract: the matrix refuses nothing, and leaves the rows that the definition says.
use Rattle.std.proofs.Common.{refl}
use Rattle.field.specs.FieldOf.{field_of}
use Rattle.decoder.proofs.Accepted.{accepted}
use Rattle.decoder.proofs.Taking.{added, reduced, as_many, others}
use Rattle.decoder.proofs.Decoder.take_piece.Goals as goal

pub unwrap-longer-requires : goal.unwrap-longer-requires
unwrap-longer-requires c =
    let a = c.args in
    rw (added a.self a.elements.now a.full_coded_piece.now (accepted a.self _ _ c.requires) c.add_row.ensures) refl

pub unwrap-reduced-requires : goal.unwrap-reduced-requires
unwrap-reduced-requires c =
    let a = c.args in
    rw (reduced a.self a.elements.now a.full_coded_piece.now (accepted a.self _ _ c.requires) (field_of a.f) c.add_row.ensures c.unwrap-longer.ensures c.rref.ensures)
    refl

pub returns-then-reduced-rows_before : goal.returns-then-reduced-rows_before
returns-then-reduced-rows_before c =
    let a = c.args in
    as_many a.self a.elements.now a.full_coded_piece.now (accepted a.self _ _ c.requires) (field_of a.f) c.add_row.ensures c.unwrap-longer.ensures
    c.rref.ensures c.unwrap-reduced.result c.unwrap-reduced.ensures c.requires c.if-reduced-rows_before.true

pub returns-else-reduced-rows_before : goal.returns-else-reduced-rows_before
returns-else-reduced-rows_before c =
    let a = c.args in
    others a.self a.elements.now a.full_coded_piece.now (accepted a.self _ _ c.requires) (field_of a.f) c.add_row.ensures c.unwrap-longer.ensures
    c.rref.ensures c.unwrap-reduced.result c.unwrap-reduced.ensures c.requires c.if-reduced-rows_before.false
