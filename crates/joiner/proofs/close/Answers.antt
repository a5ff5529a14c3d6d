-- `joiner::close` meets its contract, record by record: the block is lent from the front of the buffer, and the lines have room.
use Rattle.std.proofs.Common.{◌≡◌, refl, ap, ◌∙◌}
use Rattle.std.specs.Prelude.{Result, Ok, Err}
use Rattle.answers.specs.declared.RLNCError.{RLNCError}
use Rattle.stream.specs.declared.Record.{Record}
use Rattle.joiner.specs.Machine.{state}
use Rattle.joiner.proofs.Ends.{finish_always, finish_closes, stops, stops_always, closes_body, closes_end, closes_stop}
use Rattle.joiner.proofs.close.Goals as goal

opened : {r : Result Record RLNCError} {x y : Record} → r ≡ Ok x → x ≡ y → r ≡ Ok y
opened e q = e ∙ ap Ok q

pub returns-in-Ok-Piece : goal.returns-in-Ok-Piece
returns-in-Ok-Piece c = closes_body (state c.args.joining c.args.elements.now) c.args.at c.args.data.now (opened c.in-Ok-Piece.is (rw c.in-Ok-Piece.is at c.in-Ok-Piece.field-0-is))

pub unwrap-data-requires : goal.unwrap-data-requires
unwrap-data-requires c =
    finish_always c.args.joining c.args.elements.now c.args.data.now c.requires.block_room_in_bounds c.requires.end_room_in_bounds c.finish.ensures

pub returns-in-Ok-End : goal.returns-in-Ok-End
returns-in-Ok-End c =
    let a = c.args in
    closes_end (state a.joining a.elements.now) a.at a.data.now (opened c.in-Ok-End.is (rw c.in-Ok-End.is at c.in-Ok-End.field-0-is))
    (finish_closes a.joining a.elements.now a.data.now c.requires.block_room_in_bounds c.requires.end_room_in_bounds c.finish.ensures c.unwrap-data.ensures
    c.finish.auto.data _ c.map_or-ending.ensures refl)

pub unwrap-requires : goal.unwrap-requires
unwrap-requires c = stops_always c.args.at (Err c.in-Err.e) c.stop_line.ensures c.requires.end_room_in_bounds

pub returns-in-Err : goal.returns-in-Err
returns-in-Err c =
    closes_stop (state c.args.joining c.args.elements.now) c.args.at c.args.data.now _ c.in-Err.is
    (stops c.args.at (Err c.in-Err.e) c.stop_line.ensures c.requires.end_room_in_bounds _ c.unwrap.ensures)
