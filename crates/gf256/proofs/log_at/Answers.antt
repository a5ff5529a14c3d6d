-- `gf256::log_at` meets its contract, by the log inverse over the whole table.
use Rattle.std.proofs.Common.{arith}
use Rattle.galois.proofs.Tables.{log_rule}
use Rattle.gf256.specs.Fips197.{polynomial, generator}
use Rattle.gf256.proofs.Lists.{powers, logs}
use Rattle.gf256.proofs.Known.{tables}
use Rattle.gf256.proofs.log_at.Goals as goal

pub returns : goal.returns
unfolding logs
returns c = log_rule polynomial generator powers logs tables c.args.a (omega arith)
