-- `listing::data_line` meets its contract: the digits stand at the front, and the line feed behind them.
use Rattle.std.proofs.Common.{List, ℕ, ◌*◌, ◌++◌, arith, length, drop, set, ap, ◌∙◌}
use Rattle.listing.specs.Text.{hex}
use Rattle.listing.specs.Lines.{data_line}
use Rattle.listing.proofs.Hex.{length_hex, length_data_line}
use Rattle.listing.proofs.Putting.{placed, one_behind}
use Rattle.listing.proofs.data_line.Goals as goal

pub returns : goal.returns
unfolding data_line
returns c =
    let bytes = c.args.data.now in
    let out = c.args.out.now in
    placed (omega (arith, length_data_line bytes, c.if-out-end.false)) (omega (arith, length_data_line bytes))
    (ap (λ (l : List ℕ). set (l ++ drop (2 * length bytes) out) (2 * length bytes) 10) c.put_hex.ensures
    ∙ one_behind (hex bytes) out (2 * length bytes) 10 (omega (arith, length_hex bytes)) c.if-out-end.false)
