-- The reading of a stream as it comes: what is wanted next, and what the bytes that were wanted bring.
use Rattle.std.specs.Prelude.{List, [], ◌∷◌, ℕ, ◌+◌, ltb, length, drop, Option, Some, None, Result, Ok, Err}
use Rattle.answers.specs.declared.RLNCError.{RLNCError}
use Rattle.answers.specs.declared.RLNCError.TheVariants.{BadState, CutRecord}
use Rattle.linear.specs.Choice.{pick}
use Rattle.stream.specs.declared.Geometry.{Geometry}
use Rattle.stream.specs.declared.Record.{Record}
use Rattle.stream.specs.declared.Record.TheVariants as record·
use Rattle.stream.specs.Geometries.{body_of}
use Rattle.stream.specs.Records.{kind_record}
use Rattle.stream.specs.Streams.{largest}
use Rattle.reader.specs.declared.Place.{Place}
use Rattle.reader.specs.declared.Place.TheVariants as place·
use Rattle.reader.specs.declared.Reader.{Reader}
use Rattle.reader.specs.declared.Came.{Came}
use Rattle.reader.specs.declared.Came.TheVariants as came·
use Rattle.reader.specs.declared.Progress.{Progress}

-- the longest body
abbrev pub longest : ℕ
longest = 512

abbrev pub started : Reader
started = record { place = place·.Start; seen = None; at = 0 }

-- a kind byte; a body, with the kind byte behind it; nothing
unfoldable pub wanted : Place → ℕ
wanted place·.Start = 1
wanted (place·.Body g) = body_of g + 1
wanted place·.Done = 0

-- the record that a kind byte opens, its body still to come; "no end record, 25"
unfoldable pub opened_by : Option Geometry → List ℕ → Result Record RLNCError
opened_by so_far [] = Err CutRecord
opened_by so_far (kind ∷ behind) = kind_record so_far kind longest

-- what is wanted behind an opened record
unfoldable pub place_by : Result Record RLNCError → Place
place_by (Ok (record·.Piece g)) = place·.Body g
place_by (Ok record·.End) = place·.Done
place_by (Err e) = place·.Done

abbrev pub wanting_at : Option Geometry → ℕ → Place → Reader
wanting_at so_far at place = record { place = place; seen = so_far; at = at }

-- what came, the record opened behind it or why none was, and the reader then
abbrev pub brought_by : Reader → Came → Result Record RLNCError → Progress
brought_by next came then = record { reader = next; came = came; then = then }

-- a record opened at an offset, and what came before it
abbrev pub on : Option Geometry → ℕ → Came → Result Record RLNCError → Progress
on so_far at came r = brought_by (wanting_at so_far at (place_by r)) came r

-- a body: "a record cut short .. 25"; else the record behind it, at an offset that has to be a number of the machine
unfoldable pub body_brings : Geometry → Reader → List ℕ → Result Progress RLNCError
body_brings g r bytes =
    pick (ltb (length bytes) (body_of g)) (Ok (on r.seen r.at came·.Cut (Err CutRecord)))
    (pick (ltb largest (r.at + 1 + body_of g)) (Err BadState)
    (Ok (on (Some g) (r.at + 1 + body_of g) (came·.Piece g) (opened_by (Some g) (drop (body_of g) bytes)))))

unfoldable pub brings : Place → Reader → List ℕ → Result Progress RLNCError
brings place·.Start r bytes = Ok (on r.seen r.at came·.Start (opened_by r.seen bytes))
brings (place·.Body g) r bytes = body_brings g r bytes
brings place·.Done r bytes = Err BadState

-- 22 for more bytes than are wanted
unfoldable pub progress : Reader → List ℕ → Result Progress RLNCError
progress r bytes = pick (ltb (wanted r.place) (length bytes)) (Err BadState) (brings r.place r bytes)

-- the body that stands whole at the front of the bytes
unfoldable pub body_in : Came → ℕ
body_in came·.Start = 0
body_in (came·.Piece g) = body_of g
body_in came·.Cut = 0

-- the values: the offset of the record that was opened
unfoldable pub progress_values : Result Progress RLNCError → List ℕ
progress_values (Ok p) = p.reader.at ∷ []
progress_values (Err e) = []
