-- The machine of `setjoin`: what it says of a stream, what a turn makes of it and of the lent buffers, and what it refuses.
use Rattle.std.specs.Prelude.{◌≡◌, List, [], ◌++◌, ℕ, ◌+◌, ◌*◌, ltb, length, drop, Result, Ok, Err}
use Rattle.answers.specs.Number.{Answer, code_of}
use Rattle.answers.specs.declared.RLNCError.{RLNCError}
use Rattle.answers.specs.declared.RLNCError.TheVariants.{NoRoom}
use Rattle.galois.specs.FieldLaws.{FieldLaws}
use Rattle.linear.specs.Choice.{pick}
use Rattle.block.specs.Refusal.{if_ok, answered}
use Rattle.stream.specs.declared.Record.{Record}
use Rattle.stream.specs.declared.Record.TheVariants as record·
use Rattle.reader.specs.declared.Progress.{Progress}
use Rattle.reader.specs.Reading.{started, progress}
use Rattle.reader.specs.Pump.{Program, front, kept, declines, back}
use Rattle.listing.specs.declared.join.Joining.{Joining}
use Rattle.listing.specs.Lines.{header_line, stop_line}
use Rattle.listing.specs.Joining.{nothing, joined_after, elements_after, line_for}
use Rattle.listing.specs.Listing.{end_answer, data_of, end_lines, block_room}
use Rattle.listing.specs.Steps.{line_room, step_refusal}
use Rattle.joiner.specs.declared.Ending.{Ending}
use Rattle.joiner.specs.declared.Ending.TheVariants.{NotYet, Rebuilt, Open, Stopped}
use Rattle.joiner.specs.declared.Joiner.{Joiner}
use Rattle.joiner.specs.declared.Fed.{Fed}

-- the lines of the end, and with a piece's line before them
abbrev pub end_room : ℕ
end_room = line_room + (block_room * 2 + 1)

abbrev pub text_room : ℕ
text_room = line_room + end_room

abbrev pub fresh : Joiner
fresh = record { reader = started; joining = nothing; ending = NotYet }

-- what is kept from piece to piece
pub record State : Type 0 where
  pub joining : Joining
  pub matrix : List ℕ

abbrev pub state : Joining → List ℕ → State
state j elements = record { joining = j; matrix = elements }

-- "Header `n answer rows taken`; then a line a piece"; "On 24, 25 or 26 it is instead `stop`, the number, and the record's byte offset"
abbrev pub joins : FieldLaws → Program ℕ State
joins 𝓕 =
    record {
      header = header_line;
      line = λ s g full. line_for 𝓕 s.joining s.matrix g full;
      after = λ s g full. state (joined_after 𝓕 s.joining s.matrix g full) (elements_after 𝓕 s.joining s.matrix g full);
      refusal = λ s g. step_refusal s.joining g (length s.matrix) text_room;
      ending = λ s. end_lines s.joining s.matrix block_room;
      stopping = λ e at. stop_line (code_of e) at;
    }

-- recovery's answer decides how it ended, and which data there are
unfoldable pub ending_by : State → Result Record RLNCError → Ending
ending_by s (Ok (record·.Piece g)) = NotYet
ending_by s (Ok record·.End) = if_ok (end_answer s.joining.held s.matrix block_room) (Rebuilt (length (data_of s.joining.held s.matrix))) Open
ending_by s (Err e) = Stopped

unfoldable pub found_by : State → Result Record RLNCError → List ℕ
found_by s (Ok (record·.Piece g)) = []
found_by s (Ok record·.End) = if_ok (end_answer s.joining.held s.matrix block_room) (data_of s.joining.held s.matrix) []
found_by s (Err e) = []

-- what a turn leaves: the machine, the matrix, the text of what came first and of what follows, and the data found
pub record Outcome : Type 0 where
  pub next : Joiner
  pub matrix : List ℕ
  pub first : List ℕ
  pub later : List ℕ
  pub found : List ℕ

module _ (𝓕 : FieldLaws) where
  unfoldable pub outcome_by : Joiner → List ℕ → List ℕ → Result Progress RLNCError → Outcome
  outcome_by m elements bytes (Ok p) =
      let s = kept (joins 𝓕) (state m.joining elements) p.came bytes in
      record {
        next = record { reader = p.reader; joining = s.joining; ending = ending_by s p.then };
        matrix = s.matrix;
        first = front (joins 𝓕) (state m.joining elements) p.came bytes;
        later = back (joins 𝓕) s p.then p.reader.at;
        found = found_by s p.then;
      }
  outcome_by m elements bytes (Err e) = record { next = m; matrix = elements; first = []; later = []; found = [] }

  unfoldable pub outcome : Joiner → List ℕ → List ℕ → Outcome
  outcome m elements bytes = outcome_by m elements bytes (progress m.reader bytes)

  -- the reader's refusal, and that of a piece
  unfoldable pub turn_refusal : State → Result Progress RLNCError → Answer
  turn_refusal s (Ok p) = declines (joins 𝓕) s p.came
  turn_refusal s (Err e) = Err e

  -- these bytes, with a block and an output of these lengths
  unfoldable pub feed_refusal : Joiner → List ℕ → List ℕ → ℕ → ℕ → Answer
  feed_refusal m bytes elements area out =
      pick (ltb out text_room) (Err NoRoom)
      (pick (ltb area block_room) (Err NoRoom) (turn_refusal (state m.joining elements) (progress m.reader bytes)))

-- bytes at the front of a buffer, those behind them as they were
abbrev pub over : List ℕ → List ℕ → List ℕ
over bytes buffer = bytes ++ drop (length bytes) buffer

-- the machine after a turn, and how long its two texts are
abbrev pub fed : Joiner → ℕ → ℕ → Fed
fed m n size = record { joiner = m; first = n; later = size }

pub record Going (refusal : Answer) (o : Outcome) (elements area out : List ℕ) (r : Result Fed RLNCError) (matrix area' last : List ℕ) : Type 0 where
  pub result : r ≡ answered refusal (fed o.next (length o.first) (length o.later))
  pub left : matrix ≡ if_ok refusal o.matrix elements
  pub block : area' ≡ if_ok refusal (over o.found area) area
  pub printed : last ≡ if_ok refusal (over (o.first ++ o.later) out) out

abbrev pub Feeding : FieldLaws → Joiner → List ℕ → List ℕ → List ℕ → List ℕ → Result Fed RLNCError → List ℕ → List ℕ → List ℕ → Type 0
Feeding 𝓕 m bytes elements area out = Going (feed_refusal 𝓕 m bytes elements (length area) (length out)) (outcome 𝓕 m elements bytes) elements area out
