-- `decoder::Decoder::get_decoded_data` meets its contract: the tests are those of the order, and then the padding tells.
use Rattle.std.proofs.Common.{sym, ◌∙◌}
use Rattle.std.proofs.lemmas.Result.{err_from_is_err_and}
use Rattle.block.specs.Padding.{marker}
use Rattle.block.proofs.Chosen.{admitted}
use Rattle.decoder.proofs.Outcomes.{recover_broken, recover_made}
use Rattle.decoder.proofs.Decoder.get_decoded_data.Goals as goal

pub returns-in_err-n : goal.returns-in_err-n
returns-in_err-n c =
    let a = c.args in
    let p = err_from_is_err_and c.from_residual-in_err-n.result c.from_residual-in_err-n.ensures.1 in
    rw (p.1, p.2)
    (recover_broken marker a.self a.elements.now a.«data».now (admitted _ c.admit.ensures c.in_ok-admit.was) c.if-self.false c.if-data-self.false
    _ (sym c.data_len.ensures.told ∙ c.in_err-n.was))

pub returns : goal.returns
returns c =
    let a = c.args in
    recover_made marker a.self a.elements.now a.«data».now (admitted _ c.admit.ensures c.in_ok-admit.was) c.if-self.false c.if-data-self.false
    c.in_ok-n.n _ (sym c.data_len.ensures.told ∙ c.in_ok-n.was) c.in_ok-n.ensures.inside c.copy_to.ensures
