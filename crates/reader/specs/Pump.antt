-- A program as a pump: it reads what is wanted, is fed it, and puts out the text for it, until nothing is wanted. What it says of a stream is its own;
-- how the stream is read is the same for all.
use Rattle.std.specs.Prelude.{◌≡◌, List, [], ◌++◌, ℕ, zero, suc, take, drop, Result, Ok, Err}
use Rattle.answers.specs.Number.{Answer}
use Rattle.answers.specs.declared.RLNCError.{RLNCError}
use Rattle.linear.specs.Choice.{if_zero}
use Rattle.block.specs.Refusal.{if_ok}
use Rattle.stream.specs.declared.Geometry.{Geometry}
use Rattle.stream.specs.declared.Record.{Record}
use Rattle.stream.specs.declared.Record.TheVariants as record·
use Rattle.stream.specs.Geometries.{body_of}
use Rattle.stream.specs.Streams.{Stream, piece, end, stop}
use Rattle.reader.specs.declared.Reader.{Reader}
use Rattle.reader.specs.declared.Came.{Came}
use Rattle.reader.specs.declared.Came.TheVariants as came·
use Rattle.reader.specs.declared.Progress.{Progress}
use Rattle.reader.specs.Reading.{wanted, brought_by, progress}

-- what a program says, in bytes or otherwise, before the stream, of a piece, at the end and at a stop; what it keeps from piece to piece; and why it
-- would not take a piece
pub record Program (A S : Type 0) : Type 0 where
  pub header : List A
  pub line : S → Geometry → List ℕ → List A
  pub after : S → Geometry → List ℕ → S
  pub refusal : S → Geometry → Answer
  pub ending : S → List A
  pub stopping : RLNCError → ℕ → List A

module _ {A S : Type 0} (p : Program A S) where
  -- what it says of a stream that is known whole
  unfoldable pub says_from : S → Stream → List A
  says_from s (piece g full later) = p.line s g full ++ says_from (p.after s g full) later
  says_from s end = p.ending s
  says_from s (stop a at) = p.stopping a at

  -- a turn: what is said of what came, what is kept of it and why it is refused, and what is said of the record behind it
  unfoldable pub front : S → Came → List ℕ → List A
  front s came·.Start bytes = p.header
  front s (came·.Piece g) bytes = p.line s g (take (body_of g) bytes)
  front s came·.Cut bytes = []

  unfoldable pub kept : S → Came → List ℕ → S
  kept s came·.Start bytes = s
  kept s (came·.Piece g) bytes = p.after s g (take (body_of g) bytes)
  kept s came·.Cut bytes = s

  unfoldable pub declines : S → Came → Answer
  declines s came·.Start = Ok tt
  declines s (came·.Piece g) = p.refusal s g
  declines s came·.Cut = Ok tt

  unfoldable pub back : S → Result Record RLNCError → ℕ → List A
  back s (Ok (record·.Piece g)) at = []
  back s (Ok record·.End) at = p.ending s
  back s (Err a) at = p.stopping a at

  -- what is said in a turn, and then; a refusal ends it
  unfoldable pub turn_by : S → List ℕ → (Reader → S → List A) → Result Progress RLNCError → List A
  turn_by s bytes later (Ok t) =
      if_ok (declines s t.came) ((front s t.came bytes ++ back (kept s t.came bytes) t.then t.reader.at) ++ later t.reader (kept s t.came bytes)) []
  turn_by s bytes later (Err e) = []

  -- at most so many turns, with so many bytes left: what is wanted is read, until nothing is
  unfoldable pub pumped_from : ℕ → Reader → S → List ℕ → List A
  pumped_from zero r s left = []
  pumped_from (suc turns) r s left =
      if_zero (wanted r.place) []
      (turn_by s (take (wanted r.place) left) (λ next t. pumped_from turns next t (drop (wanted r.place) left)) (progress r (take (wanted r.place) left)))

-- an input read in so many turns: what is wanted of the bytes left is read, until nothing is wanted. No turn is refused
pub data Reads : ℕ → Reader → List ℕ → Type 0 where
  done : {r : Reader} {left : List ℕ} → wanted r.place ≡ 0 → Reads 0 r left
  turn : {n : ℕ} {r next : Reader} {came : Came} {then : Result Record RLNCError} {left : List ℕ} → (wanted r.place ≡ 0 → ⊥)
      → progress r (take (wanted r.place) left) ≡ Ok (brought_by next came then) → Reads n next (drop (wanted r.place) left) → Reads (suc n) r left
