-- `rows::combining::add_chosen`: what is added and what is left make up all that are chosen.
use Rattle.std.proofs.Common.{◌≡◌, ℕ, ◌*◌, ◌≤◌, ◌<◌, length, get_or}
use Rattle.std.specs.Slice.Iter.{chunks_rest, chunks_size}
use Rattle.galois.specs.Gf.{◌⊕◌}
use Rattle.rows.specs.Chosen.{sum_chosen}
use Rattle.rows.proofs.combining.add_chosen.Given as goal

abbrev pub invariant-loop-some : goal.invariant-loop-some
invariant-loop-some l = record {
  size : chunks_size l.some-iterator ≡ 64;
  fits : length (chunks_rest l.some-iterator) * length l.initial.out ≤ length l.left;
  added : (i : ℕ) → i < length l.initial.out
      → get_or l.out i 0 ⊕ sum_chosen l.bit (length l.initial.out) (chunks_rest l.some-iterator) l.left i
      ≡ get_or l.initial.out i 0 ⊕ sum_chosen l.bit (length l.initial.out) l.numbers l.rows i;
}
