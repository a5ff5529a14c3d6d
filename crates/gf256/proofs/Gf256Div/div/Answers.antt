-- `div` of two elements meets its contract, by what `inv` and `mul_const` ensure.
use Rattle.std.proofs.Common.{sym, ◌∙◌}
use Rattle.galois.specs.Gf.{mul, inv as inverse}
use Rattle.galois.proofs.Divided.{quotient_some}
use Rattle.gf256.specs.Fips197.{polynomial}
use Rattle.gf256.proofs.Gf256Div.div.Goals as goal

pub returns : goal.returns
returns c =
    quotient_some (mul polynomial) (inverse polynomial) c.args.self.val c.args.rhs.val c.in_ok-i.i c.mul_const.result
    (sym c.inv.ensures ∙ c.in_ok-i.was) c.mul_const.ensures
