-- `rows::combining::add_chosen`: a turn adds those of some numbers, and at the end none are left.
use Rattle.std.proofs.Common.{◌≤◌, List, ℕ, ◌+◌, ◌*◌, length, get_or, refl, sym, ap, ◌∙◌, arith, length-drop}
use Rattle.std.specs.Slice.Iter.{chunks_rest}
use Rattle.galois.specs.Gf.{◌⊕◌}
use Rattle.rows.specs.Chosen.{sum_chosen}
use Rattle.std.proofs.lemmas.List.{take_rest}
use Rattle.rows.proofs.ChosenLaws.{fits, some_added, none_left}
use Rattle.rows.proofs.CombineLaws.{chosen_all}
use Rattle.rows.proofs.combining.add_chosen.Goals as goal

pub loop-some-preserved : goal.loop-some-preserved
loop-some-preserved c =
    let l = c.loop-some in
    let width = length c.args.out.now in
    let some = c.in-Some.some.now in
    let rest = chunks_rest c.next.new.self in
    let steps = c.in-Some.ensures.steps in
    let tail = take_rest l.left.now (length some * width) in
    let room : length some * width + length rest * width ≤ length l.left.now = fits width some rest l.left.now steps.1.0 l.invariant.fits in
    record {
      size = steps.0 ∙ l.invariant.size;
      fits = omega (arith, ap length tail, length-drop (length some * width) l.left.now);
      added = λ i h.
          ap (λ (b : List ℕ). get_or c.add_rows.new.out i 0 ⊕ sum_chosen c.args.bit width rest b i) tail
          ∙ some_added width some rest l.left.now steps.1.0 i _ (record { few = c.collect-chosen.ensures.few; within = c.collect-chosen.ensures.within; sums = c.collect-chosen.ensures.sums })
          (c.add_rows.ensures i (omega arith)) (l.invariant.added i h);
    }

pub returns : goal.returns
returns c =
    let a = c.args in
    let l = c.loop-some in
    λ 𝓕. chosen_all 𝓕 a.bit (length a.out.now) a.numbers.now a.rows.now a.out.now (λ i. omega (arith, c.type_inv.rows i)) c.requires.1 refl (omega arith)
    (λ i h. sym (none_left a.bit (length a.out.now) (chunks_rest l.some-iterator) l.left.now i _ c.in-None.ensures.steps.1.0) ∙ l.invariant.added i h)
