-- `rows::combining::add_rows`: the rows at the starts gone by have been added.
use Rattle.std.proofs.Common.{◌≡◌, ℕ, ◌*◌, ◌<◌, length, get_or, take}
use Rattle.galois.specs.Gf.{◌⊕◌}
use Rattle.rows.specs.Chosen.{sum_at}
use Rattle.rows.proofs.combining.add_rows.Given as goal

abbrev pub invariant-loop-four : goal.invariant-loop-four
invariant-loop-four l = (i : ℕ) → i < length l.initial.out
    → get_or l.out i 0 ≡ get_or l.initial.out i 0 ⊕ sum_at l.rows (take (l.four-index * 4) l.starts) i

abbrev pub invariant-loop-start : goal.invariant-loop-start
invariant-loop-start l = (i : ℕ) → i < length l.initial.out
    → get_or l.out i 0 ≡ get_or l.initial.out i 0 ⊕ sum_at l.rows (take l.start-index l.rest) i
