-- `listing::put_hex`: a turn puts the two digits of a byte.
use Rattle.std.proofs.Common.{refl, arith}
use Rattle.listing.specs.Text.{hex}
use Rattle.listing.proofs.Hex.{turn}
use Rattle.listing.proofs.put_hex.Goals as goal

pub loop-i-init : goal.loop-i-init
unfolding hex
loop-i-init c = refl

pub loop-i-preserved : goal.loop-i-preserved
loop-i-preserved c =
    let a = c.args in
    turn a.«data».now a.out.now c.loop-i.i (omega arith) c.requires c.loop-i.invariant c.digit.ensures c.digit-in-loop-i.ensures
