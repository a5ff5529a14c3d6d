-- `reader::Reader::body` meets its contract. What is left: a whole body, with the record behind it.
use Rattle.std.proofs.Common.{◌≡◌, ℕ, ◌+◌, drop, sym, ap, ◌∙◌, arith, Some, Ok}
use Rattle.std.proofs.lemmas.List.{take_all, length-drop}
use Rattle.stream.specs.Geometries.{body_of}
use Rattle.reader.specs.declared.Came.TheVariants.{Piece}
use Rattle.reader.specs.Reading.{opened_by, on}
use Rattle.reader.proofs.Reading.{body_whole}
use Rattle.reader.proofs.Reader.body.Goals as goal

pub returns : goal.returns
returns c =
    let a = c.args in
    let e = c.body_len-n.ensures in
    let sum = rw c.in_ok-at.ensures.ok_part at c.checked_add.ensures in
    let at_is : c.in_ok-at.at ≡ a.self.at + 1 + body_of a.g = omega (arith, e, sum.1) in
    let rest_is : c.in-Some.rest.now ≡ drop (body_of a.g) a.input.now =
    c.in-Some.ensures.lookup.0.2 ∙ take_all _ (drop c.body_len-n.result a.input.now) (simp length-drop (omega arith)) ∙ ap (λ (n : ℕ). drop n a.input.now) e in
    ap Ok (c.next-2.ensures ∙ (λ i. on (Some a.g) (at_is i) (Piece a.g) ((c.opened.ensures ∙ ap (opened_by (Some a.g)) rest_is) i)))
    ∙ sym (body_whole a.g a.self a.input.now (omega (arith, e, c.in-Some.ensures.lookup.0.0)) (omega (arith, e, sum.0)))
