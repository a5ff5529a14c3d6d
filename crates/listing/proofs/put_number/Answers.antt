-- `listing::put_number` meets its contract: std's decimal digits are the definition's.
use Rattle.std.proofs.Common.{append_assoc, arith}
use Rattle.listing.proofs.Decimal.{printed}
use Rattle.listing.proofs.put_number.Goals as goal

pub returns-clause-appended : goal.returns-clause-appended
returns-clause-appended c = grind (arith, c.push.ensures.ascii, c.push_str.ensures.bytes, c.format.ensures.text, printed c.args.n, append_assoc)
