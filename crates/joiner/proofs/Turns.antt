-- The outcomes of a turn: refused for want of room, by the reader or by a piece's step; or gone, with what came first and what follows it.
-- Assumes nothing.
use mathlib.Core.Path.{◌≡◌, refl, sym, ap, ◌∙◌}
use mathlib.Core.List.{List, ◌++◌}
use Prim.Native.Nat.{ℕ, ◌+◌, ◌-◌, ◌≤◌, ◌<◌}
use native.Mathlib.Omega.{arith}
use borrow.Author.Tests.{le-ltb}
use borrow.Rule.Slice.PartMut.{put_mid}
use lib.Dec.{ltb}
use lib.ListN.{length, take, drop, length-append}
use lib.Seq.{take_at}
use Rattle.std.specs.Prelude.{Result, Ok, Err}
use Rattle.answers.specs.Number.{Answer, code_of}
use Rattle.answers.specs.declared.RLNCError.{RLNCError}
use Rattle.answers.specs.declared.RLNCError.TheVariants.{NoRoom}
use Rattle.galois.specs.FieldLaws.{FieldLaws}
use Rattle.stream.specs.declared.Record.{Record}
use Rattle.reader.specs.declared.Came.{Came}
use Rattle.reader.specs.declared.Came.TheVariants as came·
use Rattle.reader.specs.declared.Progress.{Progress}
use Rattle.reader.specs.Reading.{brought_by, progress}
use Rattle.reader.specs.Pump.{front, kept, declines, back}
use Rattle.listing.specs.declared.join.Joining.{Joining}
use Rattle.listing.specs.Joining.{line_of, line_for}
use Rattle.listing.specs.Listing.{block_room}
use Rattle.listing.specs.Steps.{line_room}
use Rattle.listing.proofs.Short.{piece_short}
use Rattle.block.proofs.Chosen.{passes}
use Rattle.block.proofs.Answered.{with_value}
use Rattle.joiner.specs.declared.Joiner.{Joiner}
use Rattle.joiner.specs.declared.Fed.{Fed}
use Rattle.joiner.specs.declared.Closing.{Closing}
use Rattle.joiner.specs.Machine.{end_room, text_room, State, state, joins, ending_by, found_by, Outcome, outcome_by, outcome, turn_refusal, feed_refusal, over, fed, Going, Feeding}
use Rattle.joiner.specs.Parts.{Closed}
use Rattle.joiner.proofs.Fronts.{room_behind, behind}
use Rattle.joiner.proofs.Begins.{Goes, Declines}

pub refused : {refusal : Answer} {o : Outcome} {elements area out : List ℕ} {e : RLNCError} → refusal ≡ Err e → Going refusal o elements area out (Err e) elements area out
refused q = record { result = rw q refl; left = rw q refl; block = rw q refl; printed = rw q refl }

-- what came first is a line at most, and leaves room for the rest
front_short : (𝓕 : FieldLaws) (s : State) (came : Came) (bytes : List ℕ) → length (front (joins 𝓕) s came bytes) ≤ line_room
unfolding front line_for line_of
front_short 𝓕 s came·.Start bytes = omega arith
front_short 𝓕 s (came·.Piece g) bytes = piece_short _ _ _ _
front_short 𝓕 s came·.Cut bytes = omega arith

pub room_left : {𝓕 : FieldLaws} {s : State} {came : Came} {bytes out matrix mid : List ℕ} {j : Joining} {n : ℕ} → Goes 𝓕 s came bytes out j n matrix mid
    → text_room ≤ length out → length mid ≡ length out → end_room ≤ length (take (length mid - n) (drop n mid))
room_left {𝓕} {s} {came} {bytes} g h e = omega (arith, room_behind g.says, g.says.counts, front_short 𝓕 s came bytes)

-- the reader and the piece decide, where there is room
pub room_passes : (𝓕 : FieldLaws) (m : Joiner) (bytes elements : List ℕ) (area out : ℕ) → text_room ≤ out → block_room ≤ area
    → feed_refusal 𝓕 m bytes elements area out ≡ turn_refusal 𝓕 (state m.joining elements) (progress m.reader bytes)
unfolding feed_refusal
room_passes 𝓕 m bytes elements area out h k = simp (le-ltb _ _ h, le-ltb _ _ k)

module _ (𝓕 : FieldLaws) (m : Joiner) (bytes elements area out : List ℕ) (h : text_room ≤ length out) (k : block_room ≤ length area) where
  decides : {r : Result Progress RLNCError} → progress m.reader bytes ≡ r
      → feed_refusal 𝓕 m bytes elements (length area) (length out) ≡ turn_refusal 𝓕 (state m.joining elements) r
  decides e = room_passes 𝓕 m bytes elements (length area) (length out) h k ∙ ap (turn_refusal 𝓕 (state m.joining elements)) e

  pub read_refused : {e : RLNCError} → progress m.reader bytes ≡ Err e → Feeding 𝓕 m bytes elements area out (Err e) elements area out
  unfolding turn_refusal
  read_refused e = refused (decides e)

  module _ {p : Progress} (e : progress m.reader bytes ≡ Ok p) where
    pub piece_refused : {b : RLNCError} {matrix last : List ℕ} → Declines 𝓕 (state m.joining elements) p.came out b matrix last
        → Feeding 𝓕 m bytes elements area out (Err b) matrix area last
    unfolding turn_refusal
    piece_refused d = rw (d.same_matrix, d.same_text) (refused (decides e ∙ d.because))

    pub gone : {j : Joining} {n : ℕ} {matrix mid area' last : List ℕ} {c : Closing} → Goes 𝓕 (state m.joining elements) p.came bytes out j n matrix mid
        → Closed (state j matrix) p.then p.reader.at area (take (length mid - n) (drop n mid)) c area' last
        → Feeding 𝓕 m bytes elements area out (Ok (fed (record { reader = p.reader; joining = j; ending = c.ending }) n c.size)) matrix area' (put_mid n (length mid - n) mid last)
    unfolding turn_refusal outcome outcome_by
    gone {j} {n} {matrix} {mid} {area'} {last} {c} g x =
        let ok : feed_refusal 𝓕 m bytes elements (length area) (length out) ≡ Ok tt = decides e ∙ g.passes in
        let o : outcome 𝓕 m elements bytes ≡ outcome_by 𝓕 m elements bytes (Ok p) = ap (outcome_by 𝓕 m elements bytes) e in
        let S : State = kept (joins 𝓕) (state m.joining elements) p.came bytes in
        let first : List ℕ = front (joins 𝓕) (state m.joining elements) p.came bytes in
        let later : back (joins 𝓕) (state j matrix) p.then p.reader.at ≡ back (joins 𝓕) S p.then p.reader.at = ap (λ (s : State). back (joins 𝓕) s p.then p.reader.at) g.keeps in
        let ends : c.ending ≡ ending_by S p.then = x.ends ∙ ap (λ (s : State). ending_by s p.then) g.keeps in
        record {
          result =
              rw ok ((λ i. Ok (fed (record { reader = p.reader; joining = (g.keeps i).joining; ending = ends i }) (g.says.counts i) (((x.says 𝓕).counts ∙ ap length later) i)))
              ∙ ap (λ (u : Outcome). Ok (fed u.next (length u.first) (length u.later))) (sym o));
          left = rw ok (ap (λ (s : State). s.matrix) g.keeps ∙ ap (λ (u : Outcome). u.matrix) (sym o));
          block = rw ok (x.block ∙ ap (λ (s : State). over (found_by s p.then) area) g.keeps ∙ ap (λ (u : Outcome). over u.found area) (sym o));
          printed =
              rw ok (behind g.says (back (joins 𝓕) (state j matrix) p.then p.reader.at) (x.says 𝓕).puts
              ∙ ap (λ (l : List ℕ). over (first ++ l) out) later ∙ ap (λ (u : Outcome). over (u.first ++ u.later) out) (sym o));
        }

-- ---- a turn that is not refused

room : 0 < code_of NoRoom
room = omega arith

module _ (𝓕 : FieldLaws) (m : Joiner) (bytes elements area out : List ℕ) where
  abbrev s : State
  s = state m.joining elements

  -- its one outcome
  pub feeds : text_room ≤ length out → block_room ≤ length area → {p : Progress} → progress m.reader bytes ≡ Ok p → declines (joins 𝓕) s p.came ≡ Ok tt
      → (o : Outcome) → outcome_by 𝓕 m elements bytes (Ok p) ≡ o
      → Feeding 𝓕 m bytes elements area out (Ok (fed o.next (length o.first) (length o.later))) o.matrix (over o.found area) (over (o.first ++ o.later) out)
  unfolding turn_refusal outcome
  feeds h k e d o q =
      let ok : feed_refusal 𝓕 m bytes elements (length area) (length out) ≡ Ok tt = decides 𝓕 m bytes elements area out h k e ∙ d in
      let p : o ≡ outcome 𝓕 m elements bytes = sym (ap (outcome_by 𝓕 m elements bytes) e ∙ q) in
      record {
        result = rw ok (ap (λ (u : Outcome). Ok (fed u.next (length u.first) (length u.later))) p);
        left = rw ok (ap (λ (u : Outcome). u.matrix) p);
        block = rw ok (ap (λ (u : Outcome). over u.found area) p);
        printed = rw ok (ap (λ (u : Outcome). over (u.first ++ u.later) out) p);
      }

  -- what is known of it from how it was answered
  pub record Passed (next : Joiner) (n size : ℕ) (matrix area' last : List ℕ) (came : Came) (then : Result Record RLNCError) : Type 0 where
    pub brings : progress m.reader bytes ≡ Ok (brought_by next.reader came then)
    pub passes : declines (joins 𝓕) s came ≡ Ok tt
    pub keeps : state next.joining matrix ≡ kept (joins 𝓕) s came bytes
    pub ends : next.ending ≡ ending_by (state next.joining matrix) then
    pub finds : area' ≡ over (found_by (state next.joining matrix) then) area
    pub says : take (n + size) last ≡ front (joins 𝓕) s came bytes ++ back (joins 𝓕) (state next.joining matrix) then next.reader.at

  -- the numbers of the outcome
  record Chosen (o : Outcome) (next : Joiner) (n size : ℕ) (matrix area' last : List ℕ) : Type 0 where
    to : fed next n size ≡ fed o.next (length o.first) (length o.later)
    takes : matrix ≡ o.matrix
    stores : area' ≡ over o.found area
    puts : last ≡ over (o.first ++ o.later) out

  not_refused : {refusal : Answer} {o : Outcome} {next : Joiner} {n size : ℕ} {matrix area' last : List ℕ}
      → Going refusal o elements area out (Ok (fed next n size)) matrix area' last → (refusal ≡ Ok tt) × Chosen o next n size matrix area' last
  not_refused {refusal} x =
      let v = with_value refusal x.result in
      (v.0, record { to = v.1; takes = rw v.0 at x.left; stores = rw v.0 at x.block; puts = rw v.0 at x.printed })

  -- room was there
  past_room : feed_refusal 𝓕 m bytes elements (length area) (length out) ≡ Ok tt → turn_refusal 𝓕 s (progress m.reader bytes) ≡ Ok tt
  unfolding feed_refusal
  past_room e =
      let out_of = passes (ltb (length out) text_room) _ _ room e in
      (passes (ltb (length area) block_room) _ _ room out_of.1).1

  as_chosen : {p : Progress} {next : Joiner} {n size : ℕ} {matrix area' last : List ℕ} → progress m.reader bytes ≡ Ok p → declines (joins 𝓕) s p.came ≡ Ok tt
      → Chosen (outcome_by 𝓕 m elements bytes (Ok p)) next n size matrix area' last → Passed next n size matrix area' last p.came p.then
  unfolding outcome_by
  as_chosen {p} {next} {n} {size} {matrix} e d c =
      let S : State = kept (joins 𝓕) s p.came bytes in
      let first : List ℕ = front (joins 𝓕) s p.came bytes in
      let later : List ℕ = back (joins 𝓕) S p.then p.reader.at in
      let same : state next.joining matrix ≡ S = λ i. state (c.to i).joiner.joining (c.takes i) in
      let counts : n ≡ length first = ap (λ (f : Fed). f.first) c.to in
      let more : size ≡ length later = ap (λ (f : Fed). f.later) c.to in
      record {
        brings = e ∙ sym (ap (λ (f : Fed). Ok (brought_by f.joiner.reader p.came p.then)) c.to);
        passes = d;
        keeps = same;
        ends = ap (λ (f : Fed). f.joiner.ending) c.to ∙ sym (ap (λ (t : State). ending_by t p.then) same);
        finds = c.stores ∙ sym (ap (λ (t : State). over (found_by t p.then) area) same);
        says =
            ap (take (n + size)) c.puts ∙ take_at (first ++ later) (drop (length (first ++ later)) out) (n + size) (omega (arith, counts, more, length-append first later))
            ∙ sym (λ i. first ++ back (joins 𝓕) (same i) p.then (c.to i).joiner.reader.at);
      }

  pub passed : {next : Joiner} {n size : ℕ} {matrix area' last : List ℕ} → Feeding 𝓕 m bytes elements area out (Ok (fed next n size)) matrix area' last
      → (came : Came) × (then : Result Record RLNCError) × Passed next n size matrix area' last came then
  unfolding outcome turn_refusal
  passed {next} {n} {size} {matrix} {area'} {last} x = let (k, c) = not_refused x in go (progress m.reader bytes) refl (past_room k) c
    where
      go : (r : Result Progress RLNCError) → progress m.reader bytes ≡ r → turn_refusal 𝓕 s r ≡ Ok tt → Chosen (outcome_by 𝓕 m elements bytes r) next n size matrix area' last
          → (came : Came) × (then : Result Record RLNCError) × Passed next n size matrix area' last came then
      go (Ok p) e k c = (p.came, p.then, as_chosen e k c)
      go (Err b) e k c = let z : ◌≡◌ {A = ℕ} 0 1 = cc in absurd (omega arith)
