-- `rows::sum_chosen`: a turn adds the multiple that the lowest bit left chooses.
use Rattle.std.proofs.Common.{◌≡◌, List, ℕ, ◌+◌, ◌/◌, ◌%◌, ◌*◌, ◌≤◌, ◌<◌, length, get_or, drop, sym, ap, ◌∙◌, add-one, arith, drop-cons}
use Rattle.std.proofs.Math.ListN.{drop_of_length-le}
use Rattle.galois.specs.Gf.{◌⊕◌}
use Rattle.galois.proofs.Sum.{⊕_assoc, ⊕_zero, zero_⊕}
use Rattle.galois.proofs.Multiples.{chosen, by_bits}
use Rattle.rows.proofs.sum_chosen.Goals as goal

one_more : (m : List ℕ) (i b sum : ℕ) → i < length m
    → sum ⊕ b % 2 * get_or m i 0 ⊕ chosen (drop (i + 1) m) (b / 2) ≡ sum ⊕ chosen (drop i m) b
unfolding chosen
one_more m i b sum h =
    ⊕_assoc sum (b % 2 * get_or m i 0) (chosen (drop (i + 1) m) (b / 2))
    ∙ ap (λ (x : ℕ). sum ⊕ x)
    (ap (λ (k : ℕ). b % 2 * get_or m i 0 ⊕ chosen (drop k m) (b / 2)) (add-one i) ∙ sym (ap (λ (l : List ℕ). chosen l b) (drop-cons m i 0 h)))

none_left : (m : List ℕ) (i b sum : ℕ) → length m ≤ i → sum ⊕ chosen (drop i m) b ≡ sum
unfolding chosen
none_left m i b sum h = ap (λ (l : List ℕ). sum ⊕ chosen l b) (drop_of_length-le m h) ∙ ⊕_zero sum

pub loop-x-init : goal.loop-x-init
loop-x-init c = zero_⊕ _

pub loop-x-preserved : goal.loop-x-preserved
loop-x-preserved c =
    let l = c.loop-x in
    ap (λ (x : ℕ). l.sum ⊕ x ⊕ chosen (drop (l.x-index + 1) c.args.m) (l.bits / 2)) c.chosen_by-sum.ensures
    ∙ one_more c.args.m l.x-index l.bits l.sum (omega arith) ∙ l.invariant

pub returns : goal.returns
returns c = λ 𝓕 q e.
    let l = c.loop-x in
    sym (none_left c.args.m l.x-index l.bits l.sum (omega arith)) ∙ l.invariant ∙ ap (λ (m : List ℕ). chosen m c.args.b) e ∙ by_bits 𝓕 q c.args.b (omega arith)
