-- `listing::join::Joining::piece` meets its contract: the tests are the definition's, and the piece is taken with the decoder held, or with a new one
-- of the piece's geometry.
use Rattle.std.proofs.Common.{length, ap, ◌∙◌, inl, inr, arith}
use borrow.Author.Tests.{lt-ltb, le-ltb, le-leb}
use Rattle.std.specs.Prelude.{Err}
use Rattle.std.proofs.lemmas.Result.{err_from_is_err_and}
use Rattle.stream.specs.Streams.{largest}
use Rattle.listing.specs.Steps.{step_refusal}
use Rattle.listing.proofs.Stepping.{step_refused, step_took, step_not_started, tested}
use Rattle.listing.proofs.join.Joining.piece.Goals as goal

pub returns-then-out-lt-LINE_LEN : goal.returns-then-out-lt-LINE_LEN
unfolding step_refusal
returns-then-out-lt-LINE_LEN c = step_refused (simp (lt-ltb _ _ c.if-out-lt-LINE_LEN.true))

pub returns-then-self : goal.returns-then-self
unfolding step_refusal
returns-then-self c =
    elim c.then-self.either [
      | inl more ↦ step_refused (simp (le-ltb _ _ c.if-out-lt-LINE_LEN.false, lt-ltb _ _ more))
      | inr last ↦ step_refused (simp (le-ltb _ _ c.if-out-lt-LINE_LEN.false, le-ltb _ _ last.0, le-leb largest c.args.self.pieces (omega arith)))
    ]

pub returns-in_err-held : goal.returns-in_err-held
returns-in_err-held c =
    let a = c.args in
    let p = err_from_is_err_and c.from_residual.result c.from_residual.ensures.1 in
    step_not_started
    (tested a.self a.g (length a.elements.now) (length a.out.now) c.if-out-lt-LINE_LEN.false c.if-self.false (omega (arith, c.if-self-eq18446744073709551615.false)))
    c.in_err-held.ensures (p.1 ∙ ap Err p.2)

pub returns : goal.returns
returns c =
    let a = c.args in
    step_took
    (tested a.self a.g (length a.elements.now) (length a.out.now) c.if-out-lt-LINE_LEN.false c.if-self.false (omega (arith, c.if-self-eq18446744073709551615.false)))
    c.in_ok-held.ensures c.take-answer.ensures c.count.ensures
