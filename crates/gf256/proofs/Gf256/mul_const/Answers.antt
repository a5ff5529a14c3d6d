-- `gf256::Gf256::mul_const` meets its contract: the logarithms of the factors add up to that of the product, and a product with 1 is the
-- other factor.
use Rattle.std.proofs.Common.{ℕ, ◌<◌, ◌∙◌, arith}
use Rattle.galois.proofs.Tables.{by_logs}
use Rattle.gf256.specs.Fips197.{polynomial, generator}
use Rattle.gf256.proofs.Lists.{powers, logs}
use Rattle.gf256.proofs.Known.{tables}
use Rattle.gf256.proofs.Gf256.mul_const.Goals as goal

pub returns : goal.returns
returns c =
    let a : ℕ = c.args.a in
    let b : ℕ = c.args.b in
    let a_pos : 0 < a = omega arith in
    let b_pos : 0 < b = omega arith in
    c.exp_at.ensures
    ∙ by_logs polynomial generator powers logs tables a b c.log_at.result c.log_at-2.result a_pos b_pos
    c.log_at.ensures c.log_at-2.ensures
