-- `gf256::exp_at` meets its contract, by the power rule of the whole table.
use Rattle.galois.proofs.Tables.{power_rule}
use Rattle.gf256.specs.Fips197.{polynomial, generator}
use Rattle.gf256.proofs.Lists.{powers, logs}
use Rattle.gf256.proofs.Known.{tables}
use Rattle.gf256.proofs.exp_at.Goals as goal

pub returns : goal.returns
unfolding powers
returns c = power_rule polynomial generator powers logs tables c.args.i c.requires
