-- `rows::sum_chosen`: what is added and what is left make up all that are chosen.
use Rattle.std.proofs.Common.{◌≡◌, drop}
use Rattle.galois.specs.Gf.{◌⊕◌}
use Rattle.galois.proofs.Multiples.{chosen}
use Rattle.rows.proofs.sum_chosen.Given as goal

abbrev pub invariant-loop-x : goal.invariant-loop-x
invariant-loop-x l = l.sum ⊕ chosen (drop l.x-index l.x-items) l.bits ≡ chosen l.x-items l.fn.b
