-- `stored::save` meets its contract: the tests are the definition's, in its order, and then the form is written.
use Rattle.std.proofs.Common.{ℕ, ◌≤◌, ◌<◌, sym, List, ◌++◌, ◌∙◌, length, drop, ap, subst, arith, Ok, Result}
use Rattle.std.proofs.lemmas.Result.{err_from_is_err_and}
use Rattle.answers.specs.declared.RLNCError.{RLNCError}
use Rattle.block.proofs.Chosen.{admitted}
use Rattle.decoder.specs.Records.{k_of, l_of}
use Rattle.stored.specs.Forms.{form_size}
use Rattle.stored.specs.Entries.{Saving}
use Rattle.stored.proofs.Forms.{sizes_are}
use Rattle.stored.proofs.Entries.{handed_on, saves_unfit, saves_unlisted, saves_no_room, saves}
use Rattle.stored.proofs.save.Goals as goal

pub returns-in_err-admit : goal.returns-in_err-admit
returns-in_err-admit c = saves_unfit _ _ _ c.admit.ensures c.in_err-admit.was (err_from_is_err_and _ c.from_residual.ensures.1)

pub returns-in_err-g : goal.returns-in_err-g
returns-in_err-g c =
    let e = handed_on c.in_err-g.ensures.value c.in_err-g.ensures.ok_part (err_from_is_err_and _ c.from_residual-in_err-g.ensures.1) in
    subst (λ (r : Result ℕ RLNCError). Saving c.args.d c.args.elements.now c.args.out.now r c.args.out.now) (sym e)
    (saves_unlisted _ _ _ (admitted _ c.admit.ensures c.in_ok-admit.was) (sym c.of_sizes.ensures ∙ c.in_err-g.ensures.ok_part))

pub returns-then-out-n : goal.returns-then-out-n
returns-then-out-n c =
    let h : length c.args.out.now < form_size c.in_ok-g.g = omega (arith, c.form_len-n.ensures) in
    saves_no_room _ _ _ (admitted _ c.admit.ensures c.in_ok-admit.was) c.in_ok-g.g (sym c.of_sizes.ensures ∙ c.in_ok-g.ensures.ok_part) h

pub put_form-requires-clause-of_g : goal.put_form-requires-clause-of_g
put_form-requires-clause-of_g c = sizes_are (k_of c.args.d) (l_of c.args.d) c.in_ok-g.g (sym c.of_sizes.ensures ∙ c.in_ok-g.ensures.ok_part)

pub returns : goal.returns
returns c =
    let h : form_size c.in_ok-g.g ≤ length c.args.out.now = omega (arith, c.form_len-n.ensures) in
    subst (λ (n : ℕ). Saving c.args.d c.args.elements.now c.args.out.now (Ok n) (c.put_form.new.form ++ drop n c.args.out.now)) (sym c.form_len-n.ensures)
    (saves _ _ _ (admitted _ c.admit.ensures c.in_ok-admit.was) c.in_ok-g.g (sym c.of_sizes.ensures ∙ c.in_ok-g.ensures.ok_part) h
    (ap (λ (l : List ℕ). l ++ drop (form_size c.in_ok-g.g) c.args.out.now) c.put_form.ensures))
