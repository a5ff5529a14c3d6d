-- `decoder_matrix::rules::Held::clear_rows` meets its contract: row j lies within the buffer, and beside row i.
use Rattle.std.proofs.Common.{◌≡◌, true, ℕ, ◌+◌, ◌*◌, ◌≤◌, ◌<◌, ◌⊎◌, inl, inr, ⊎_elim, length, arith, refl, sym, ap, ◌∙◌}
use Rattle.field.specs.FieldOf.{field_of}
use Rattle.rows.proofs.PartLaws.{Apart, lies}
use Rattle.rows.proofs.Outcomes.{part_added}
use Rattle.linear.proofs.Buffer.{row_end}
use Rattle.decoder_matrix.specs.declared.DecoderMatrix.{DecoderMatrix}
use Rattle.decoder_matrix.specs.Matrix.{sizes_fit}
use Rattle.decoder_matrix.proofs.Sizes.{sized, row_in, column_in, pivot_byte}
use Rattle.decoder_matrix.proofs.Passes.{inverse_there, inverse_byte}
use Rattle.decoder_matrix.proofs.Range.{range_starts, range_ends, turn_skips, turn_adds}
use Rattle.decoder_matrix.proofs.rules.Held.clear_rows.Goals as goal

-- rows i and j lie beside each other
beside : (m : DecoderMatrix) (n i j : ℕ) {from to : ℕ} → sizes_fit m n ≡ true → i < m.rows → from ≤ j → j < to → to ≤ m.rows → (i < from) ⊎ (to ≤ i)
    → Apart (i * m.cols) (j * m.cols) m.cols n
beside m n i j {from} {to} e hi lo hj top out = record {
  from_in = row_in m n e i hi;
  to_in = row_in m n e j (omega arith);
  aside =
      ⊎_elim
      (λ o. let k : i < j = omega arith in inl (row_end m.cols k))
      (λ o. let k : j < i = omega arith in inr (row_end m.cols k))
      out;
}

pub unwrap-inverse-requires : goal.unwrap-inverse-requires
unwrap-inverse-requires c =
    let h = c.args.self.now in
    rw c.inv.ensures (inverse_there (field_of c.args.f).inv _ (λ z. c.requires.pivot (sym (pivot_byte h.matrix h.elements.now h.fits c.args.i c.requires.row) ∙ z)))

pub loop-j-init : goal.loop-j-init
loop-j-init c =
    let h = c.args.self.now in
    rw c.into_iter-j-iterator.ensures.into_iter_gives
    (record {
      from = omega arith;
      inside = c.requires.order;
      to = refl;
      rowed = range_starts (field_of c.args.f) h.matrix.cols h.matrix.rows c.args.rows.start c.args.rows.end c.args.i h.elements.now c.requires.order c.requires.held;
    })

pub loop-j-preserved-then-x-eq0 : goal.loop-j-preserved-then-x-eq0
loop-j-preserved-then-x-eq0 c =
    let h = c.args.self.now in
    let v = c.loop-j.invariant in
    let s = c.in-Some.ensures.steps in
    let start : c.loop-j.j-iterator.start ≡ c.in-Some.j = omega (arith, s) in
    let next : c.next.new.self.start ≡ c.in-Some.j + 1 = omega (arith, s) in
    record {
      from = omega (arith, s, v);
      inside = omega (arith, s, v);
      to = s.0 ∙ v.to;
      rowed =
          rw next
          (turn_skips (field_of c.args.f) h.matrix.cols h.matrix.rows c.args.rows.start c.args.rows.end c.args.i h.elements.now c.requires.order c.requires.held
          c.in-Some.j (omega (arith, v)) (omega (arith, s, v)) (rw start at v.rowed)
          (column_in h.matrix (length h.elements.now) h.fits c.args.i c.requires.row) c.if-x-eq0.true);
    }

pub unwrap-requires : goal.unwrap-requires
unwrap-requires c =
    let h = c.args.self.now in
    let v = c.loop-j.invariant in
    let s = c.in-Some.ensures.steps in
    let size : length c.loop-j.elements ≡ length h.elements.now = omega arith in
    let fits : sizes_fit h.matrix (length c.loop-j.elements) ≡ true = rw size h.fits in
    rw (
      c.mul_part_by_scalar_then_add_into_part.ensures.answer,
      lies _ _ (beside h.matrix (length c.loop-j.elements) c.args.i c.in-Some.j fits c.requires.row (omega (arith, s, v)) (omega (arith, s, v)) c.requires.held c.requires.outside),
    ) refl

pub loop-j-preserved : goal.loop-j-preserved
loop-j-preserved c =
    let h = c.args.self.now in
    let v = c.loop-j.invariant in
    let s = c.in-Some.ensures.steps in
    let start : c.loop-j.j-iterator.start ≡ c.in-Some.j = omega (arith, s) in
    let next : c.next.new.self.start ≡ c.in-Some.j + 1 = omega (arith, s) in
    let size : length c.loop-j.elements ≡ length h.elements.now = omega arith in
    let fits : sizes_fit h.matrix (length c.loop-j.elements) ≡ true = rw size h.fits in
    let byte = pivot_byte h.matrix h.elements.now h.fits c.args.i c.requires.row in
    let inverse = inverse_byte (field_of c.args.f).inv _ _ (sym c.inv.ensures ∙ c.unwrap-inverse.ensures) ∙ ap (field_of c.args.f).inv byte in
    record {
      from = omega (arith, s, v);
      inside = omega (arith, s, v);
      to = s.0 ∙ v.to;
      rowed =
          rw next
          (turn_adds (field_of c.args.f) h.matrix.cols h.matrix.rows c.args.rows.start c.args.rows.end c.args.i h.elements.now c.requires.order c.requires.held
          c.in-Some.j (omega (arith, v)) (omega (arith, s, v)) (rw start at v.rowed) c.requires.row
          (column_in h.matrix (length h.elements.now) h.fits c.args.i c.requires.row) c.requires.outside
          (sized h.matrix (length c.loop-j.elements) fits).held inverse c.mul-q.ensures
          (part_added c.mul_part_by_scalar_then_add_into_part.ensures
          (beside h.matrix (length c.loop-j.elements) c.args.i c.in-Some.j fits c.requires.row (omega (arith, s, v)) (omega (arith, s, v)) c.requires.held c.requires.outside)));
    }

pub returns : goal.returns
returns c =
    let h = c.args.self.now in
    let v = c.loop-j.invariant in
    let s = c.in-None.ensures.steps in
    let end : c.loop-j.j-iterator.start ≡ c.args.rows.end = omega (arith, s, v) in
    record {
      matrix = refl;
      lent = refl;
      ruled =
          range_ends (field_of c.args.f) h.matrix.cols h.matrix.rows c.args.rows.start c.args.rows.end c.args.i h.elements.now c.requires.order c.requires.held (rw end at v.rowed);
    }
