-- `listing::put_hex`: the digits of the first i bytes stand at the front, and the rest is as it was.
use Rattle.std.proofs.Common.{◌≡◌, ◌*◌, ◌++◌, take, drop}
use Rattle.listing.specs.Text.{hex}
use Rattle.listing.proofs.put_hex.Given as goal

abbrev pub invariant-loop-i : goal.invariant-loop-i
invariant-loop-i l = l.out ≡ hex (take l.i l.«data») ++ drop (2 * l.i) l.initial.out
