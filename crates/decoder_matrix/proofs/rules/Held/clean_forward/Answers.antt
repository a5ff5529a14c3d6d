-- `decoder_matrix::rules::Held::clean_forward` meets its contract: the row found comes to i, and clears the rows below.
use Rattle.std.proofs.Common.{◌≡◌, ℕ, ◌<◌, List, inl, length, arith, refl, sym, ap, ◌∙◌}
use Rattle.field.specs.FieldOf.{field_of}
use Rattle.linear.specs.Rows.{entry, pivot_from, swap_rows, forward}
use Rattle.decoder_matrix.specs.Steps.{rows_of_held}
use Rattle.decoder_matrix.proofs.Applied.{length_held, stays, as_many, rows_after, as_well, and_then}
use Rattle.decoder_matrix.proofs.Range.{range_below}
use Rattle.decoder_matrix.proofs.Passes.{pivot_swapped, forward_skips, forward_clears}
use Rattle.decoder_matrix.proofs.rules.Held.clean_forward.Goals as goal

pub loop-i-init : goal.loop-i-init
unfolding forward
loop-i-init c = stays c.args.self.now refl

pub loop-i-preserved-in_default : goal.loop-i-preserved-in_default
loop-i-preserved-in_default c =
    let v = c.loop-i.invariant in
    let none_left = ap (pivot_from c.loop-i.i) (sym (rows_after v)) ∙ c.in_default.ensures in
    as_well v (sym (forward_skips (field_of c.args.f) c.loop-i.i (rows_of_held c.args.self.now) none_left))

pub swap_rows-requires-clause-j_is_held : goal.swap_rows-requires-clause-j_is_held
swap_rows-requires-clause-j_is_held c =
    let now = c.loop-i.self in
    let inside : c.loop-i.i < length (rows_of_held now) = omega (arith, length_held now, as_many c.loop-i.invariant) in
    omega (arith, length_held now, as_many c.loop-i.invariant, (pivot_swapped c.loop-i.i c.in-Some.j (rows_of_held now) inside c.in-Some.ensures).0)

pub clear_rows-requires : goal.clear_rows-requires
clear_rows-requires c =
    let now = c.loop-i.self in
    let inside : c.loop-i.i < length (rows_of_held now) = omega (arith, length_held now, as_many c.loop-i.invariant) in
    let pivot = (pivot_swapped c.loop-i.i c.in-Some.j (rows_of_held now) inside c.in-Some.ensures).1 in
    record {
      order = omega arith;
      held = omega (arith, as_many c.loop-i.invariant, as_many c.swap_rows.ensures);
      row = omega (arith, as_many c.loop-i.invariant, as_many c.swap_rows.ensures);
      outside = inl (omega arith);
      pivot = λ z. pivot (ap (λ (rows : List (List ℕ)). entry rows c.loop-i.i c.loop-i.i) (sym (rows_after c.swap_rows.ensures)) ∙ z);
    }

pub loop-i-preserved : goal.loop-i-preserved
loop-i-preserved c =
    let 𝓕 = field_of c.args.f in
    let rows = rows_of_held c.args.self.now in
    let v = c.loop-i.invariant in
    let found = ap (pivot_from c.loop-i.i) (sym (rows_after v)) ∙ c.in-Some.ensures in
    let swap = and_then v c.swap_rows.ensures in
    let swapped = swap_rows (forward 𝓕 c.loop-i.i rows) c.loop-i.i c.in-Some.j in
    let long : length swapped ≡ c.args.self.now.matrix.rows = sym (ap length (rows_after swap)) ∙ length_held c.swap_rows.new.self ∙ as_many swap in
    as_well (and_then swap c.clear_rows.ensures)
    (range_below 𝓕 c.loop-i.i c.args.self.now.matrix.rows swapped long ∙ sym (forward_clears 𝓕 c.loop-i.i rows c.in-Some.j found))
