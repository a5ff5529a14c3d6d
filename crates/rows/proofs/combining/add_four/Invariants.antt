-- `rows::combining::add_four`: the first i bytes have the four rows added, the others are as they were.
use Rattle.std.proofs.Common.{◌≡◌, ℕ, ◌+◌, ◌≤◌, ◌<◌, get_or}
use Rattle.galois.specs.Gf.{◌⊕◌}
use Rattle.rows.proofs.combining.add_four.Given as goal

abbrev pub invariant-loop-i : goal.invariant-loop-i
invariant-loop-i l = record {
  done : (k : ℕ) → k < l.i
      → get_or l.out k 0 ≡ get_or l.initial.out k 0 ⊕ (get_or l.rows (l.a + k) 0 ⊕ get_or l.rows (l.b + k) 0 ⊕ get_or l.rows (l.c + k) 0 ⊕ get_or l.rows (l.d + k) 0);
  left : (k : ℕ) → l.i ≤ k → get_or l.out k 0 ≡ get_or l.initial.out k 0;
}
