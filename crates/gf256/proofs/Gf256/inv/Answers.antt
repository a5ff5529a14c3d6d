-- `gf256::Gf256::inv` meets its contract: 255 less the logarithm is that of the inverse, and 1 is its own.
use Rattle.std.proofs.Common.{ℕ, ◌<◌, ◌∙◌, arith}
use Rattle.galois.specs.Gf.{inv as inverse}
use Rattle.galois.proofs.Divided.{inverse_some}
use Rattle.galois.proofs.Tables.{inv_by_log}
use Rattle.gf256.specs.Fips197.{polynomial, generator}
use Rattle.gf256.proofs.Lists.{powers, logs}
use Rattle.gf256.proofs.Known.{tables}
use Rattle.gf256.proofs.Gf256.inv.Goals as goal

pub returns : goal.returns
returns c =
    let a : ℕ = c.args.self.val in
    let pos : 0 < a = omega arith in
    inverse_some (inverse polynomial) a c.exp_at.result pos
    (c.exp_at.ensures ∙ inv_by_log polynomial generator powers logs tables a c.log_at.result pos (omega arith) c.log_at.ensures)
