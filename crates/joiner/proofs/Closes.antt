-- Every run ends as the input's stream does: rebuilt, open or stopped, with its data at the front of the block.
-- Assumes nothing.
use mathlib.Core.Path.{◌≡◌, refl, sym, ap, ◌∙◌}
use mathlib.Core.List.{List, [], ◌∷◌, ◌++◌, append-nil}
use Prim.Native.Nat.{ℕ, zero, suc, ◌+◌, ◌≤◌, ◌<◌}
use native.Mathlib.Nat.{not-suc-le-zero}
use native.Mathlib.Omega.{arith}
use lib.ListN.{length, get_or, take, drop, replicate}
use Rattle.std.specs.Prelude.{Result, Ok}
use Rattle.answers.specs.declared.RLNCError.{RLNCError}
use Rattle.galois.specs.FieldLaws.{FieldLaws}
use Rattle.stream.specs.declared.Record.{Record}
use Rattle.stream.specs.declared.Record.TheVariants as record·
use Rattle.stream.specs.Streams.{largest, Stream, piece, end, stop, stream_of}
use Rattle.reader.specs.declared.Place.{Place}
use Rattle.reader.specs.declared.Came.{Came}
use Rattle.reader.specs.declared.Came.TheVariants as came·
use Rattle.reader.specs.Reading.{wanted}
use Rattle.reader.specs.Pump.{Program, says_from, front, kept, declines, back, pumped_from}
use Rattle.reader.proofs.Reading.{Opened, body, ended, stopped, opens}
use Rattle.reader.proofs.Pump.{turned, wants_nothing, pumped_is}
use Rattle.listing.specs.declared.join.Joining.{Joining}
use Rattle.listing.specs.Joining.{nothing, joined_after, elements_after}
use Rattle.listing.specs.Listing.{matrix_length}
use Rattle.joiner.specs.declared.Ending.TheVariants.{Stopped}
use Rattle.joiner.specs.declared.Joiner.{Joiner}
use Rattle.joiner.specs.Machine.{fresh, State, state, joins, ending_by, found_by, over}
use Rattle.joiner.specs.Runs.{Run, done, turn, Close, close_from, close_of}
use Rattle.joiner.proofs.Turns.{Passed, passed}
use Rattle.joiner.proofs.Prints.{Ready, ready_passes, still_ready, first_ready, positive}

module _ (𝓕 : FieldLaws) where
  -- the program that says nothing but how it ends, and keeps what `setjoin` keeps
  abbrev closes : Program Close State
  closes =
      record {
        header = [];
        line = λ s g full. [];
        after = (joins 𝓕).after;
        refusal = (joins 𝓕).refusal;
        ending = λ s. record { ending = ending_by s (Ok record·.End); found = found_by s (Ok record·.End) } ∷ [];
        stopping = λ a at. record { ending = Stopped; found = [] } ∷ [];
      }

  says_close : (s : Stream) (j : Joining) (elements : List ℕ) → says_from closes (state j elements) s ≡ close_from 𝓕 j elements s ∷ []
  unfolding says_from close_from
  says_close (piece g full later) j elements = says_close later (joined_after 𝓕 j elements g full) (elements_after 𝓕 j elements g full)
  says_close end j elements = refl
  says_close (stop a at) j elements = refl

  silent : (s : State) (came : Came) (bytes : List ℕ) → front closes s came bytes ≡ []
  unfolding front
  silent s came·.Start bytes = refl
  silent s (came·.Piece g) bytes = refl
  silent s came·.Cut bytes = refl

  same_kept : (s : State) (came : Came) (bytes : List ℕ) → kept (joins 𝓕) s came bytes ≡ kept closes s came bytes
  unfolding kept
  same_kept s came·.Start bytes = refl
  same_kept s (came·.Piece g) bytes = refl
  same_kept s came·.Cut bytes = refl

  same_declined : (s : State) (came : Came) → declines closes s came ≡ declines (joins 𝓕) s came
  unfolding declines
  same_declined s came·.Start = refl
  same_declined s (came·.Piece g) = refl
  same_declined s came·.Cut = refl

  -- a machine that wants nothing is done
  rests : {n : ℕ} {m last : Joiner} {elements area left text block : List ℕ} → Run 𝓕 n m elements area left text last block → wanted m.reader.place ≡ 0
      → (last ≡ m) × (block ≡ area)
  rests (done e) k = (refl, refl)
  rests (turn some x later) k = absurd (some k)

  -- what is left to say, and the block that it leaves
  pub record Closes (last : Joiner) (block area : List ℕ) (says : List Close) : Type 0 where
    pub data_found : List ℕ
    pub in_block : block ≡ over data_found area
    pub said : record { ending = last.ending; found = data_found } ∷ [] ≡ says

  module _ (m : Joiner) (elements area left out : List ℕ) {next : Joiner} {a b : ℕ} {matrix area' put : List ℕ} {came : Came} {then : Result Record RLNCError}
      (some : wanted m.reader.place ≡ 0 → ⊥)
      (p : Passed 𝓕 m (take (wanted m.reader.place) left) elements area out next a b matrix area' put came then) (most : ℕ) where
    abbrev S : State
    S = state next.joining matrix

    abbrev later : List Close
    later = pumped_from closes most next.reader S (drop (wanted m.reader.place) left)

    one_turn : pumped_from closes (suc most) m.reader (state m.joining elements) left ≡ back closes S then next.reader.at ++ later
    one_turn =
        let bytes : List ℕ = take (wanted m.reader.place) left in
        let s : State = state m.joining elements in
        let (w, e) = positive (wanted m.reader.place) some in
        let same : kept closes s came bytes ≡ S = sym (p.keeps ∙ same_kept s came bytes) in
        turned closes most w m.reader s left e next.reader came then p.brings (same_declined s came ∙ p.passes)
        ∙ (λ i. (silent s came bytes i ++ back closes (same i) then next.reader.at) ++ pumped_from closes most next.reader (same i) (drop (wanted m.reader.place) left))

    -- where the machine wants nothing, this turn was the last
    last_turn : {n : ℕ} {last : Joiner} {rest text block : List ℕ} {what : Result Record RLNCError} → then ≡ what → wanted next.reader.place ≡ 0
        → Run 𝓕 n next matrix area' rest text last block
        → back closes S what next.reader.at ≡ record { ending = ending_by S what; found = found_by S what } ∷ []
        → Closes last block area (pumped_from closes (suc most) m.reader (state m.joining elements) left)
    last_turn {what = what} q e run told =
        let (l, k) = rests run e in
        record {
          data_found = found_by S what;
          in_block = k ∙ p.finds ∙ ap (λ (w : Result Record RLNCError). over (found_by S w) area) q;
          said =
              (λ i. record { ending = (ap (λ (x : Joiner). x.ending) l ∙ p.ends ∙ ap (ending_by S) q) i; found = found_by S what } ∷ [])
              ∙ sym told
              ∙ sym (append-nil (back closes S what next.reader.at))
              ∙ (λ i. back closes S (sym q i) next.reader.at ++ sym (wants_nothing closes most next.reader S (drop (wanted m.reader.place) left) e) i)
              ∙ sym one_turn;
        }

    goes_on : {n : ℕ} {last : Joiner} {rest text block : List ℕ} → Run 𝓕 n next matrix area' rest text last block
        → ((wanted next.reader.place ≡ 0 → ⊥) → Closes last block area' later) → (place : Place) → next.reader.place ≡ place
        → (what : Result Record RLNCError) → then ≡ what → Opened place what → Closes last block area (pumped_from closes (suc most) m.reader (state m.joining elements) left)
    unfolding wanted back ending_by found_by
    goes_on run rest place e what q body =
        let c = rest (λ z. omega (arith, sym (ap wanted e) ∙ z)) in
        record {
          data_found = c.data_found;
          in_block = c.in_block ∙ ap (over c.data_found) (p.finds ∙ ap (λ (w : Result Record RLNCError). over (found_by S w) area) q);
          said = c.said ∙ (λ i. back closes S (sym q i) next.reader.at ++ later) ∙ sym one_turn;
        }
    goes_on run rest place e what q ended = last_turn q (ap wanted e) run refl
    goes_on run rest place e what q (stopped {a = why}) = last_turn q (ap wanted e) run refl

  run_closes : {n : ℕ} {m last : Joiner} {elements area left text block : List ℕ} → Run 𝓕 n m elements area left text last block
      → (wanted m.reader.place ≡ 0 → ⊥) → (most : ℕ) → n ≤ most → Closes last block area (pumped_from closes most m.reader (state m.joining elements) left)
  run_closes (done e) some most h = absurd (some e)
  run_closes (turn k x later) some zero h = absurd (not-suc-le-zero h)
  run_closes (turn {m = m} {next = next} {elements = elements} {area = area} {left = left} {out = out} k x later) some (suc most) h =
      let (came, then, p) = passed 𝓕 m (take (wanted m.reader.place) left) elements area out x in
      goes_on m elements area left out some p most later (λ more. run_closes later more most (omega arith)) next.reader.place refl then refl
      (opens m.reader (take (wanted m.reader.place) left) p.brings)

  pub ends_as : {n : ℕ} {last : Joiner} {area input text block : List ℕ} → length input < largest
      → Run 𝓕 n fresh (replicate matrix_length 0) area input text last block
      → (last.ending ≡ (close_of 𝓕 input).ending) × (block ≡ over (close_of 𝓕 input).found area)
  unfolding wanted close_of
  ends_as {n = n} {last = last} {area = area} {input = input} small r =
      let c = run_closes r (λ e. omega arith) (suc (length input) + n) (omega arith) in
      let same : record { ending = last.ending; found = c.data_found } ∷ [] ≡ close_of 𝓕 input ∷ [] =
      c.said
      ∙ pumped_is closes Ready (ready_passes 𝓕) (still_ready 𝓕) (suc (length input) + n) (state nothing (replicate matrix_length 0)) input (first_ready 𝓕) small (omega arith)
      ∙ says_close (stream_of input) nothing (replicate matrix_length 0) in
      let one = ap (λ (l : List Close). get_or l 0 (close_of 𝓕 input)) same in
      (ap (λ (x : Close). x.ending) one, c.in_block ∙ ap (λ (x : Close). over x.found area) one)
