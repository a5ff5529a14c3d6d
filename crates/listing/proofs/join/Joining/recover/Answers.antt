-- `listing::join::Joining::recover` meets its contract, with a decoder and without.
use Rattle.std.proofs.Common.{◌≡◌, ap, ◌∙◌, sym, subst, arith}
use Rattle.std.specs.Prelude.{Option, Some, Err}
use Rattle.std.proofs.lemmas.Result.{err_from_is_err_and}
use Rattle.decoder.specs.declared.Decoder.{Decoder}
use Rattle.listing.specs.Steps.{Recovered}
use Rattle.listing.proofs.Ending.{recovered, recovered_nothing}
use Rattle.listing.proofs.join.Joining.recover.Goals as goal

pub returns-in_err-d : goal.returns-in_err-d
returns-in_err-d c =
    let p = err_from_is_err_and c.from_residual.result c.from_residual.ensures.1 in
    recovered_nothing (grind arith) (p.1 ∙ ap Err p.2 ∙ grind arith)

pub returns : goal.returns
returns c =
    let a = c.args in
    let held : a.self.held ≡ Some c.in_ok-d.d = grind arith in
    subst (λ (h : Option Decoder). Recovered h a.elements.now a.«data».now c.get_decoded_data.result c.get_decoded_data.new.«data») (sym held) (recovered c.get_decoded_data.ensures)
