-- `rows::combining::add_rows`: a turn adds the rows at four starts, or at one.
-- Answers of one line stay each by itself: a lemma is no plainer.
use Rattle.std.proofs.Common.{◌≡◌, ◌≤◌, List, ℕ, [], ◌∷◌, ◌++◌, ◌+◌, ◌-◌, ◌*◌, ◌/◌, length, get_or, take, drop, sym, ap, ◌∙◌, subst, arith, take-append-drop}
use Rattle.std.proofs.Math.Seq.{take-add, get_or-take, get_or-drop, take_all}
use Rattle.std.proofs.lemmas.List.{take_more}
use Rattle.galois.specs.Gf.{◌⊕◌}
use Rattle.rows.specs.Chosen.{sum_at}
use Rattle.rows.proofs.ChosenLaws.{chunk_at, row_added, sum_one, none_added, more_added}
use Rattle.rows.proofs.combining.add_rows.Goals as goal

pub loop-four-init : goal.loop-four-init
loop-four-init c = λ i h. none_added c.args.rows.now i _

pub add_four-requires : goal.add_four-requires
add_four-requires c =
    let xs = c.args.starts.now in
    let m = c.loop-four.four-index in
    let four = ap (λ (l : List (List ℕ)). get_or l m []) c.as_chunks.ensures.front ∙ chunk_at 4 (length xs / 4) m xs (omega arith) in
    λ k h.
    let at = ap (λ (l : List ℕ). get_or l k 0) four ∙ get_or-take 4 (drop (m * 4) xs) k 0 h ∙ get_or-drop (m * 4) xs k 0 in
    subst (λ (s : ℕ). s + length c.loop-four.out ≤ length c.args.rows.now) (sym at) (omega (arith, c.requires (m * 4 + k) (omega arith)))

pub loop-four-preserved : goal.loop-four-preserved
loop-four-preserved c =
    let xs = c.args.starts.now in
    let m = c.loop-four.four-index in
    let four = ap (λ (l : List (List ℕ)). get_or l m []) c.as_chunks.ensures.front ∙ chunk_at 4 (length xs / 4) m xs (omega arith) in
    let both : take ((m + 1) * 4) xs ≡ take (m * 4) xs ++ get_or c.as_chunks.result.0.now m [] =
    ap (λ (k : ℕ). take k xs) (omega arith) ∙ take-add (m * 4) 4 xs ∙ ap (λ (l : List ℕ). take (m * 4) xs ++ l) (sym four) in
    λ i h. more_added c.args.rows.now i _ (take (m * 4) xs) _ both (c.loop-four.invariant i h) (c.add_four.ensures i (omega arith))

pub loop-start-init : goal.loop-start-init
loop-start-init c = λ i h. none_added c.args.rows.now i _

pub loop-start-preserved : goal.loop-start-preserved
loop-start-preserved c =
    let a = c.args in
    let l = c.loop-start in
    let xs = a.starts.now in
    let m = length xs / 4 * 4 in
    let rest = c.as_chunks.result.1.now in
    let s = get_or rest l.start-index 0 in
    let at : s ≡ get_or xs (m + l.start-index) 0 = ap (λ (r : List ℕ). get_or r l.start-index 0) c.as_chunks.ensures.back ∙ get_or-drop m xs l.start-index 0 in
    let fits : s + length a.out.now ≤ length a.rows.now = omega (arith, at, c.requires (m + l.start-index) (omega arith)) in
    let size : s + length a.out.now - s ≡ length l.out = omega arith in
    λ i h. more_added a.rows.now i _ (take l.start-index rest) (s ∷ []) (take_more rest l.start-index 0 (omega arith)) (l.invariant i h)
    (ap (λ (o : List ℕ). get_or o i 0) c.add_row.ensures
    ∙ row_added a.rows.now l.out s (s + length a.out.now - s) i size (omega arith) (omega arith)
    ∙ ap (λ (x : ℕ). get_or l.out i 0 ⊕ x) (sym (sum_one a.rows.now i s)))

pub returns : goal.returns
returns c =
    let xs = c.args.starts.now in
    let rows = c.args.rows.now in
    let m = length xs / 4 * 4 in
    let rest = c.as_chunks.result.1.now in
    let fours : c.loop-four.four-index * 4 ≡ m = omega arith in
    let all : length rest ≤ c.loop-start.start-index = omega arith in
    let both : xs ≡ take m xs ++ rest = sym (ap (λ (l : List ℕ). take m xs ++ l) c.as_chunks.ensures.back ∙ take-append-drop m xs) in
    λ i h. more_added rows i _ (take m xs) rest both
    (c.loop-four.invariant i h ∙ ap (λ (k : ℕ). get_or c.args.out.now i 0 ⊕ sum_at rows (take k xs) i) fours)
    (c.loop-start.invariant i (omega arith)
    ∙ ap (λ (l : List ℕ). get_or c.loop-four.out i 0 ⊕ sum_at rows l i) (take_all c.loop-start.start-index rest all))
