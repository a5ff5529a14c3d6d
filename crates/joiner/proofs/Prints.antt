-- Fed with an input of fewer than 2^64 - 1 bytes until it wants nothing, the machine prints the input's listing; and it can be fed so, in no more turns
-- than the input has bytes, and one.
-- Assumes nothing.
use mathlib.Core.Path.{◌≡◌, refl, sym, ap, ◌∙◌, subst}
use mathlib.Core.Bool.{Bool, true, false}
use mathlib.Core.List.{List, [], ◌++◌}
use Prim.Native.Nat.{ℕ, zero, suc, ◌+◌, ◌≤◌, ◌<◌}
use native.Mathlib.Nat.{not-suc-le-zero}
use native.Mathlib.Omega.{arith}
use lib.Dec.{eqb}
use lib.ListN.{length, take, drop, replicate, length-replicate, length-append, length-drop}
use Rattle.std.specs.Prelude.{Ok}
use Rattle.galois.specs.FieldLaws.{FieldLaws}
use Rattle.linear.specs.Choice.{pick}
use Rattle.stream.specs.declared.Geometry.{Geometry}
use Rattle.stream.specs.Geometries.{body_of}
use Rattle.stream.specs.Streams.{largest, Stream, piece, end, stop, stream_of}
use Rattle.reader.specs.declared.Reader.{Reader}
use Rattle.reader.specs.declared.Came.{Came}
use Rattle.reader.specs.Reading.{wanted, brought_by}
use Rattle.reader.specs.Pump.{says_from, front, kept, declines, back, pumped_from, Reads}
use Rattle.reader.specs.Pump as reads·
use Rattle.reader.proofs.Reading.{Brought, start, whole, cut, brought}
use Rattle.reader.proofs.Turns.{reads}
use Rattle.reader.proofs.Pump.{turned, wants_nothing, pumped_is}
use Rattle.listing.specs.declared.join.Joining.{Joining}
use Rattle.listing.specs.Joining.{nothing, joined, answer_to, joined_after, elements_after, line_for}
use Rattle.listing.specs.Listing.{matrix_length, block_room, lines_from, listing_of}
use Rattle.listing.specs.Steps.{start_refusal}
use Rattle.listing.proofs.Stepping.{tested}
use Rattle.listing.proofs.Room.{matrix_fits, new_fits}
use Rattle.joiner.specs.declared.Ending.{Ending}
use Rattle.joiner.specs.declared.Ending.TheVariants.{NotYet}
use Rattle.joiner.specs.declared.Joiner.{Joiner}
use Rattle.joiner.specs.Machine.{text_room, fresh, State, state, joins, ending_by, found_by, Outcome, outcome_by, over}
use Rattle.joiner.specs.Runs.{Run, done, turn}
use Rattle.joiner.proofs.Turns.{feeds, passed}

-- what the program says of a stream is the listing's lines
says_lines : (𝓕 : FieldLaws) (s : Stream) (j : Joining) (elements : List ℕ) → says_from (joins 𝓕) (state j elements) s ≡ lines_from 𝓕 j elements s
unfolding says_from lines_from
says_lines 𝓕 (piece g full later) j elements =
    ap (λ (l : List ℕ). line_for 𝓕 j elements g full ++ l) (says_lines 𝓕 later (joined_after 𝓕 j elements g full) (elements_after 𝓕 j elements g full))
says_lines 𝓕 end j elements = refl
says_lines 𝓕 (stop a at) j elements = refl

-- ---- what holds from piece to piece: the counts are good, no more pieces have come than bytes, and the matrix has room for the first

pub record Ready (at : ℕ) (s : State) : Type 0 where
  pub few : s.joining.repeats ≤ s.joining.pieces
  pub fewer : s.joining.pieces ≤ at
  pub room : (g : Geometry) → start_refusal s.joining.held g (length s.matrix) ≡ Ok tt

at_most_one : (t : Bool) → pick t 1 0 ≤ 1
at_most_one true = omega arith
at_most_one false = omega arith

pub positive : (n : ℕ) → (n ≡ 0 → ⊥) → (w : ℕ) × (n ≡ suc w)
positive zero h = absurd (h refl)
positive (suc n) h = (n, refl)

module _ (𝓕 : FieldLaws) where
  pub ready_passes : (at : ℕ) (s : State) (g : Geometry) → Ready at s → at + 1 + body_of g ≤ largest → (joins 𝓕).refusal s g ≡ Ok tt
  ready_passes at s g r l =
      tested s.joining g (length s.matrix) text_room (omega arith) r.few (omega (arith, r.fewer)) ∙ r.room g

  pub still_ready : (at : ℕ) (s : State) (g : Geometry) (full : List ℕ) → Ready at s → Ready (at + 1 + body_of g) ((joins 𝓕).after s g full)
  unfolding joined_after joined start_refusal
  still_ready at s g full r =
      record {
        few = omega (arith, r.few, at_most_one (eqb (answer_to 𝓕 s.joining s.matrix g full) 8));
        fewer = omega (arith, r.fewer);
        room = λ g. refl;
      }

  pub first_ready : Ready 0 (state nothing (replicate matrix_length 0))
  unfolding start_refusal
  first_ready =
      record {
        few = omega arith;
        fewer = omega arith;
        room = λ g. new_fits g (length (replicate {A = ℕ} matrix_length 0)) (omega (arith, length-replicate {A = ℕ} matrix_length 0, matrix_fits g));
      }

  -- ---- every run prints the listing

  run_pumped : {n : ℕ} {m last : Joiner} {elements area left text block : List ℕ} → Run 𝓕 n m elements area left text last block
      → (most : ℕ) → n ≤ most → text ≡ pumped_from (joins 𝓕) most m.reader (state m.joining elements) left
  run_pumped (done {m = m} {elements = elements} {left = left} e) most h = sym (wants_nothing (joins 𝓕) most m.reader (state m.joining elements) left e)
  run_pumped (turn some x later) zero h = absurd (not-suc-le-zero h)
  run_pumped (turn {m = m} {next = next} {elements = elements} {area = area} {left = left} {out = out} some x later) (suc most) h =
      let bytes : List ℕ = take (wanted m.reader.place) left in
      let rest : List ℕ = drop (wanted m.reader.place) left in
      let (came, then, p) = passed 𝓕 m bytes elements area out x in
      let first : List ℕ = front (joins 𝓕) (state m.joining elements) came bytes in
      let (w, e) = positive (wanted m.reader.place) some in
      (λ i. p.says i ++ run_pumped later most (omega arith) i)
      ∙ (λ i. (first ++ back (joins 𝓕) (p.keeps i) then next.reader.at) ++ pumped_from (joins 𝓕) most next.reader (p.keeps i) rest)
      ∙ sym (turned (joins 𝓕) most w m.reader (state m.joining elements) left e next.reader came then p.brings p.passes)

  pub prints : {n : ℕ} {last : Joiner} {area input text block : List ℕ} → length input < largest
      → Run 𝓕 n fresh (replicate matrix_length 0) area input text last block → text ≡ listing_of 𝓕 input
  unfolding listing_of
  prints {n = n} {input = input} small r =
      run_pumped r (suc (length input) + n) (omega arith)
      ∙ pumped_is (joins 𝓕) Ready ready_passes still_ready (suc (length input) + n) (state nothing (replicate matrix_length 0)) input first_ready small (omega arith)
      ∙ ap (λ (l : List ℕ). (joins 𝓕).header ++ l) (says_lines 𝓕 (stream_of input) nothing (replicate matrix_length 0))

  -- ---- there is a run

  module _ (s : State) {r next : Reader} {bytes : List ℕ} where
    not_declined : {came : Came} → Ready r.at s → Brought r bytes next came → declines (joins 𝓕) s came ≡ Ok tt
    unfolding declines
    not_declined h (start e) = refl
    not_declined h (whole {g = g} b e l) = ready_passes r.at s g h l
    not_declined h (cut e) = refl

    next_ready : {came : Came} → Ready r.at s → Brought r bytes next came → Ready next.at (kept (joins 𝓕) s came bytes)
    unfolding kept
    next_ready h (start e) = subst (λ (n : ℕ). Ready n s) (sym e) h
    next_ready h (whole {g = g} b e l) = subst (λ (n : ℕ). Ready n ((joins 𝓕).after s g (take (body_of g) bytes))) (sym e) (still_ready r.at s g (take (body_of g) bytes) h)
    next_ready h (cut e) = subst (λ (n : ℕ). Ready n s) (sym e) h

  -- what is put over a block leaves it no shorter
  no_shorter : (bytes area : List ℕ) → length area ≤ length (over bytes area)
  no_shorter bytes area = omega (arith, length-append bytes (drop (length bytes) area), length-drop (length bytes) area)

  abbrev Runs : ℕ → Joiner → List ℕ → List ℕ → List ℕ → Type 0
  Runs n m elements area left = (text : List ℕ) × (last : Joiner) × (block : List ℕ) × Run 𝓕 n m elements area left text last block

  -- a text buffer that is large enough, at each turn
  abbrev lent : List ℕ
  lent = replicate text_room 0

  runs_from : {n : ℕ} {r : Reader} {left : List ℕ} → Reads n r left → (j : Joining) (e : Ending) (elements area : List ℕ) → block_room ≤ length area
      → Ready r.at (state j elements) → Runs n (record { reader = r; joining = j; ending = e }) elements area left
  unfolding outcome_by
  runs_from {r = r} (reads·.done k) j e elements area h ready = ([], record { reader = r; joining = j; ending = e }, area, done k)
  runs_from {r = r} {left = left} (reads·.turn {next = next} {came = came} {then = then} some q later) j e elements area h ready =
      let m : Joiner = record { reader = r; joining = j; ending = e } in
      let bytes : List ℕ = take (wanted r.place) left in
      let s : State = state j elements in
      let b : Brought r bytes next came = brought r bytes q in
      let S : State = kept (joins 𝓕) s came bytes in
      let o : Outcome = outcome_by 𝓕 m elements bytes (Ok (brought_by next came then)) in
      let fed = feeds 𝓕 m bytes elements area lent (omega (arith, length-replicate {A = ℕ} text_room 0)) h q (not_declined s ready b) o refl in
      let rest = runs_from later S.joining (ending_by S then) S.matrix (over (found_by S then) area) (omega (arith, no_shorter (found_by S then) area)) (next_ready s ready b) in
      (_, rest.1, rest.2, turn some fed rest.3)

  pub runs : (area input : List ℕ) → block_room ≤ length area → length input < largest
      → (n : ℕ) × (n ≤ suc (length input)) × Runs n fresh (replicate matrix_length 0) area input
  runs area input h small =
      let r = reads input small in
      (r.0, r.1, runs_from r.2 nothing NotYet (replicate matrix_length 0) area h first_ready)
