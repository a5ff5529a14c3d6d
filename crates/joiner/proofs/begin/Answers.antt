-- `joiner::begin` meets its contract: the header and a piece's line have room, and a piece's step is refused as the definition says.
use Rattle.std.proofs.Common.{◌≡◌, ℕ, ◌≤◌, length, sym, ap, arith}
use lib.Seq.{length-take-le}
use Rattle.stream.specs.declared.Geometry.{Geometry}
use Rattle.stream.specs.Geometries.{body_of}
use Rattle.reader.specs.declared.Came.{Came}
use Rattle.reader.specs.declared.Came.TheVariants.{Piece}
use Rattle.reader.specs.Reading.{body_in}
use Rattle.listing.specs.Lines.{header_line}
use Rattle.listing.proofs.Counting.{put_whole}
use Rattle.joiner.specs.Machine.{text_room}
use Rattle.joiner.proofs.Fronts.{lined_front}
use Rattle.joiner.proofs.Begins.{begins_start, begins_piece, begins_cut}
use Rattle.joiner.proofs.begin.Goals as goal

header_fits : {n : ℕ} → text_room ≤ n → length header_line ≤ n
header_fits h = omega arith

body_fits : {came : Came} {g : Geometry} {n size : ℕ} → came ≡ Piece g → n ≡ body_of g → body_in came ≤ size → n ≤ size
unfolding body_in
body_fits e b h = omega (arith, ap body_in e)

pub slice_bounds-piece-end : goal.slice_bounds-piece-end
slice_bounds-piece-end c = sym (length-take-le c.body_len.result c.args.input.now (body_fits c.in-Piece.is c.body_len.ensures c.requires.came_in_bounds))

pub returns-in_err-size-in-Start : goal.returns-in_err-size-in-Start
returns-in_err-size-in-Start c = absurd (put_whole c.header_line.ensures (header_fits c.requires.text_room_in_bounds) _ c.in_err-size-in-Start.was)

pub returns-in_ok-size-in-Start : goal.returns-in_ok-size-in-Start
returns-in_ok-size-in-Start c =
    begins_start c.args.joining c.args.elements.now c.args.input.now c.in-Start.is
    (lined_front c.header_line.ensures (header_fits c.requires.text_room_in_bounds) _ c.in_ok-size-in-Start.was)

pub returns-in-Piece : goal.returns-in-Piece
returns-in-Piece c =
    begins_piece c.args.joining c.args.elements.now c.args.input.now _ c.in-Piece.is c.body_len.ensures c.requires.text_room_in_bounds c.piece.ensures

pub returns-in-Cut : goal.returns-in-Cut
returns-in-Cut c = begins_cut c.args.joining c.args.elements.now c.args.input.now c.in-Cut.is
