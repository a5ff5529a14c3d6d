-- `joiner::Joiner::feed` meets its contract: room first, then the reader decides, then a piece's step; what follows is put behind what came first.
use Rattle.std.proofs.Common.{ap, sym, ◌∙◌, inl, inr}
use borrow.Author.Tests.{lt-ltb, le-ltb}
use Rattle.std.specs.Prelude.{Err}
use Rattle.std.proofs.lemmas.Result.{err_from_is_err_and}
use Rattle.field.specs.FieldOf.{field_of}
use Rattle.reader.proofs.Reading.{body_came}
use Rattle.joiner.specs.Machine.{feed_refusal}
use Rattle.joiner.proofs.Begins.{goes, refuses}
use Rattle.joiner.proofs.Turns.{refused, read_refused, piece_refused, room_left, gone}
use Rattle.joiner.proofs.Joiner.feed.Goals as goal

pub returns-then-out-lt-TEXT_LEN : goal.returns-then-out-lt-TEXT_LEN
unfolding feed_refusal
returns-then-out-lt-TEXT_LEN c =
    elim c.then-out-lt-TEXT_LEN.either [
      | inl few ↦ refused (simp (lt-ltb _ _ few))
      | inr few ↦ refused (simp (le-ltb _ _ few.0, lt-ltb _ _ few.1))
    ]

pub begin-requires-clause-came_in_bounds : goal.begin-requires-clause-came_in_bounds
begin-requires-clause-came_in_bounds c = body_came c.args.self.reader c.args.input.now (sym c.read.ensures ∙ c.in_ok-reader.was)

pub close-ending-requires-clause-end_room_in_bounds : goal.close-ending-requires-clause-end_room_in_bounds
close-ending-requires-clause-end_room_in_bounds c = room_left (goes c.begin.ensures c.in_ok-joining.was) c.if-out-lt-TEXT_LEN.false c.begin.auto.out

pub returns-in_err-reader : goal.returns-in_err-reader
returns-in_err-reader c =
    let a = c.args in
    let p = err_from_is_err_and c.from_residual.result c.from_residual.ensures.1 in
    rw (p.1 ∙ ap Err p.2)
    (read_refused (field_of a.f) a.self a.input.now a.elements.now a.data.now a.out.now c.if-out-lt-TEXT_LEN.false c.if-data-lt-BLOCK_LEN.false
    (sym c.read.ensures ∙ c.in_err-reader.was))

pub returns-in_err-joining : goal.returns-in_err-joining
returns-in_err-joining c =
    let a = c.args in
    let p = err_from_is_err_and c.from_residual-in_err-joining.result c.from_residual-in_err-joining.ensures.1 in
    rw (p.1 ∙ ap Err p.2)
    (piece_refused (field_of a.f) a.self a.input.now a.elements.now a.data.now a.out.now c.if-out-lt-TEXT_LEN.false c.if-data-lt-BLOCK_LEN.false
    (sym c.read.ensures ∙ c.in_ok-reader.was) (refuses c.begin.ensures c.in_err-joining.was))

pub returns : goal.returns
returns c =
    let a = c.args in
    gone (field_of a.f) a.self a.input.now a.elements.now a.data.now a.out.now c.if-out-lt-TEXT_LEN.false c.if-data-lt-BLOCK_LEN.false
    (sym c.read.ensures ∙ c.in_ok-reader.was) (goes c.begin.ensures c.in_ok-joining.was) c.close-ending.ensures
