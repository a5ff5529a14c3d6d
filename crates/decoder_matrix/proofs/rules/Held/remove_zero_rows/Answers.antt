-- `decoder_matrix::rules::Held::remove_zero_rows` meets its contract: the rows kept end within the k rows that there is room for.
-- Answers of one line stay each by itself: a lemma is no plainer.
use Rattle.std.proofs.Common.{ℕ, ◌≡◌, ◌+◌, ◌-◌, ◌*◌, ◌≤◌, ◌<◌, true, List, [], length, get_or, take, set, replicate, arith, rules, refl, sym, ap, ◌∙◌, subst}
use native.Mathlib.Nat.{mul-le-mul_right}
use Rattle.linear.specs.Rows.{all_zero, drop_empty}
use Rattle.linear.specs.Buffer.{Ruled}
use Rattle.linear.proofs.Buffer.{length_part, length_put}
use Rattle.linear.proofs.Flat.{further, cleared_behind}
use Rattle.decoder_matrix.specs.declared.DecoderMatrix.{DecoderMatrix}
use Rattle.decoder_matrix.specs.declared.rules.Held.{Held}
use Rattle.decoder_matrix.specs.Matrix.{k_of, sizes_fit, rows_in, with_rows}
use Rattle.decoder_matrix.proofs.Sizes.{sized, fewer}
use Rattle.decoder_matrix.proofs.Keeping.{Keeping, found_row, turn_drops, turn_keeps, all_kept}
use Rattle.decoder_matrix.proofs.rules.Held.remove_zero_rows.Goals as goal

module _ (h now : Held) (j kept : ℕ) (e : now.matrix ≡ h.matrix)
    (t : Keeping h.matrix.cols h.matrix.rows (k_of h.matrix) j kept h.elements.now now.elements.now) where
  -- the row tested is row j as it was at entry
  tested : j < h.matrix.rows
      → all_zero (take (k_of now.matrix) (get_or (rows_in now.matrix now.elements.now) j [])) ≡ all_zero (take (k_of h.matrix) (get_or (rows_in h.matrix h.elements.now) j []))
  tested l =
      ap (λ (m : DecoderMatrix). all_zero (take (k_of m) (get_or (rows_in m now.elements.now) j []))) e
      ∙ ap (λ (r : List ℕ). all_zero (take (k_of h.matrix) r)) (found_row t l)

  few : j ≤ h.matrix.rows → kept ≤ k_of h.matrix
  few l = omega (arith, sized h.matrix (length h.elements.now) h.fits, t.few)

  -- the area behind the rows kept
  abbrev x : ℕ
  x = k_of h.matrix * h.matrix.cols - kept * h.matrix.cols

  whole : j ≤ h.matrix.rows → kept * h.matrix.cols + x ≡ k_of h.matrix * h.matrix.cols
  whole l = omega (arith, mul-le-mul_right h.matrix.cols (few l))

  inside : j ≤ h.matrix.rows → kept * h.matrix.cols + x ≤ length now.elements.now
  inside l =
      let fits : sizes_fit h.matrix (length now.elements.now) ≡ true = rw e at now.fits in
      omega (arith, whole l, (sized h.matrix (length now.elements.now) fits).room)

pub returns : goal.returns
returns c =
    let h = c.args.self.now in
    let m = h.matrix in
    let l = c.loop-j in
    let old = h.elements.now in
    let now = l.self.elements.now in
    let v = l.invariant in
    let e : l.j ≡ m.rows = omega arith in
    let top = few h l.self _ _ v.matrix v.keeping l.auto.j-end in
    let all = all_kept m.cols m.rows (k_of m) l.kept old now (rw e at v.keeping) in
    let x : ℕ = k_of m * m.cols - l.kept * m.cols in
    let behind = further (m.rows * m.cols) (k_of m * m.cols) now old (mul-le-mul_right m.cols (sized m (length old) h.fits).few) v.keeping.rest in
    let cleared =
    c.fill.ensures.after (search rules)
    ∙ ap (λ (i : ℕ). replicate i 0) (length_part (l.kept * m.cols) x now (inside h l.self _ _ v.matrix v.keeping l.auto.j-end)) in
    record {
      matrix = ap (λ (n : DecoderMatrix). with_rows n l.kept) v.matrix ∙ ap (with_rows m) (sym all.1);
      lent = v.lent;
      left = cleared_behind m.cols (k_of m) l.kept x old now top all.0 all.1 behind (whole h l.self _ _ v.matrix v.keeping l.auto.j-end) cleared;
    }

pub loop-j-init : goal.loop-j-init
unfolding drop_empty
loop-j-init c = record { matrix = refl; lent = refl; keeping = record { few = omega arith; front = refl; later = refl; rest = refl } }

pub loop-j-preserved-then-is_empty_row : goal.loop-j-preserved-then-is_empty_row
loop-j-preserved-then-is_empty_row c =
    let v = c.loop-j.invariant in
    record {
      matrix = v.matrix;
      lent = v.lent;
      keeping = turn_drops v.keeping c.loop-j-test.true (sym (tested c.args.self.now c.loop-j.self _ _ v.matrix v.keeping c.loop-j-test.true) ∙ sym c.if-is_empty_row.ensures);
    }

pub loop-j-preserved : goal.loop-j-preserved
loop-j-preserved c =
    let v = c.loop-j.invariant in
    let now = c.loop-j.self.elements.now in
    let new = c.move_row.new.self.elements.now in
    let moved = subst (λ (m : DecoderMatrix). Ruled m.cols m.rows now new (set (rows_in m now) c.loop-j.kept (get_or (rows_in m now) c.loop-j.j []))) v.matrix c.move_row.ensures.ruled in
    record {
      matrix = c.move_row.ensures.matrix ∙ v.matrix;
      lent = c.move_row.ensures.lent ∙ v.lent;
      keeping = turn_keeps v.keeping c.loop-j-test.true (sym (tested c.args.self.now c.loop-j.self _ _ v.matrix v.keeping c.loop-j-test.true) ∙ sym c.if-is_empty_row.ensures) moved;
    }

pub overflow_mul-kept : goal.overflow_mul-kept
overflow_mul-kept c =
    let h = c.args.self.now in
    let v = c.loop-j.invariant in
    omega (arith, sized h.matrix (length h.elements.now) h.fits, mul-le-mul_right h.matrix.cols (few c.args.self.now c.loop-j.self _ _ v.matrix v.keeping c.loop-j.auto.j-end))

pub slice_bounds-fill-count : goal.slice_bounds-fill-count
slice_bounds-fill-count c =
    let v = c.loop-j.invariant in
    mul-le-mul_right c.args.self.now.matrix.cols (few c.args.self.now c.loop-j.self _ _ v.matrix v.keeping c.loop-j.auto.j-end)

pub slice_bounds-fill-start : goal.slice_bounds-fill-start
slice_bounds-fill-start c =
    let v = c.loop-j.invariant in
    mul-le-mul_right c.args.self.now.matrix.cols (few c.args.self.now c.loop-j.self _ _ v.matrix v.keeping c.loop-j.auto.j-end)

pub invariant_of-self : goal.invariant_of-self
invariant_of-self c =
    let m = c.args.self.now.matrix in
    let l = c.loop-j in
    let now = l.self.elements.now in
    let v = l.invariant in
    let room = inside c.args.self.now l.self _ _ v.matrix v.keeping l.auto.j-end in
    let same = length_put (l.kept * m.cols) (k_of m * m.cols - l.kept * m.cols) c.fill.new.self now room
    (c.fill.ensures.len ∙ length_part (l.kept * m.cols) (k_of m * m.cols - l.kept * m.cols) now room) in
    let fewer_rows : l.kept ≤ l.self.matrix.rows = rw v.matrix (omega (arith, v.keeping.few)) in
    record { fits = ap (sizes_fit (with_rows l.self.matrix l.kept)) same ∙ fewer l.self.matrix (length now) l.self.fits l.kept fewer_rows }
