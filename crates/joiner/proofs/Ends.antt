-- What follows in a turn: nothing before a body has come, the lines of the end with the block lent from the front of a buffer, or the line of a stop.
-- Assumes nothing.
use mathlib.Core.Path.{◌≡◌, refl, sym, ap, ◌∙◌, subst}
use mathlib.Core.List.{List, [], ◌++◌, append_assoc}
use Prim.Native.Nat.{ℕ, ◌≤◌}
use native.Mathlib.Omega.{arith}
use lib.ListN.{length, take, drop, length-append, length-drop, take-append-drop}
use lib.Seq.{length-take-le, drop-append-le}
use Rattle.std.specs.Prelude.{Option, Some, None, MatchOption, Result, Ok, Err, IsOk, is_ok}
use Rattle.answers.specs.Number.{Answer, number_of, code_of}
use Rattle.answers.specs.declared.RLNCError.{RLNCError}
use Rattle.block.specs.Refusal.{if_ok}
use Rattle.stream.specs.declared.Geometry.{Geometry}
use Rattle.stream.specs.declared.Record.{Record}
use Rattle.stream.specs.declared.Record.TheVariants as record·
use Rattle.reader.specs.Pump.{back}
use Rattle.listing.specs.declared.join.Joining.{Joining}
use Rattle.listing.specs.declared.join.End.{End}
use Rattle.listing.specs.Lines.{stop_line}
use Rattle.listing.specs.Puts.{Lined}
use Rattle.listing.specs.Listing.{end_answer, data_of, end_lines, block_room}
use Rattle.listing.specs.Steps.{ended, Finished}
use Rattle.listing.proofs.Short.{stop_short}
use Rattle.listing.proofs.Counting.{put_ok}
use Rattle.listing.proofs.Ending.{ends}
use Rattle.listing.proofs.OneResult.{one_finished}
use Rattle.joiner.specs.declared.Ending.{Ending}
use Rattle.joiner.specs.declared.Ending.TheVariants.{NotYet, Rebuilt, Open, Stopped}
use Rattle.joiner.specs.declared.Closing.{Closing}
use Rattle.joiner.specs.Machine.{end_room, State, state, ending_by, found_by, over}
use Rattle.joiner.specs.Parts.{Front, Closed}
use Rattle.joiner.proofs.Fronts.{lined_front}

-- ---- the line of a stop

module _ (at : ℕ) (a : Answer) {out last : List ℕ} {r : Result ℕ RLNCError} (l : Lined (stop_line (number_of a) at) out r last) (h : end_room ≤ length out) where
  fits : length (stop_line (number_of a) at) ≤ length out
  fits = omega (arith, stop_short (number_of a) at)

  pub stops : (n : ℕ) → r ≡ Ok n → Front (stop_line (number_of a) at) out n last
  stops n e = lined_front l fits n e

  pub stops_always : IsOk r
  stops_always = put_ok l fits

-- ---- the lines of the end

-- a front put over a part of the buffer, with what lies behind the part
put_over : (bytes buffer : List ℕ) (n : ℕ) → n ≤ length buffer → length (over bytes (take n buffer)) ≡ n → over bytes (take n buffer) ++ drop n buffer ≡ over bytes buffer
put_over bytes buffer n h e =
    let few : length bytes ≤ length (take n buffer) =
    omega (arith, length-append bytes (drop (length bytes) (take n buffer)), length-drop (length bytes) (take n buffer), length-take-le n buffer h) in
    append_assoc bytes (drop (length bytes) (take n buffer)) (drop n buffer)
    ∙ ap (λ (l : List ℕ). bytes ++ l)
    (sym (drop-append-le (length bytes) (take n buffer) (drop n buffer) few) ∙ ap (drop (length bytes)) (take-append-drop n buffer))

module _ (j : Joining) (elements area : List ℕ) {out part last : List ℕ} {r : Result End RLNCError} (room : block_room ≤ length area) (h : end_room ≤ length out)
    (x : Finished j elements (take block_room area) out r part last) where
  same : length (take block_room area) ≡ block_room
  same = length-take-le block_room area room

  answer : Answer
  answer = end_answer j.held elements block_room

  abbrev bytes : List ℕ
  bytes = data_of j.held elements

  -- how recovery's answer decides
  found : Answer → Option ℕ
  found a = if_ok a (Some (length bytes)) None

  outcome_is : (r ≡ Ok (ended (found answer) (length (end_lines j elements block_room)))) × (part ≡ if_ok answer (over bytes (take block_room area)) (take block_room area))
      × (last ≡ over (end_lines j elements block_room) out)
  unfolding answer found
  outcome_is =
      subst (λ (n : ℕ). (r ≡ Ok (ended (if_ok (end_answer j.held elements n) (Some (length bytes)) None) (length (end_lines j elements n))))
      × (part ≡ if_ok (end_answer j.held elements n) (over bytes (take block_room area)) (take block_room area)) × (last ≡ over (end_lines j elements n) out)) same
      (one_finished x (ends j elements (take block_room area) out (omega (arith, same, h))))

  kept_block : (a : Answer) → length part ≡ length (take block_room area) → part ≡ if_ok a (over bytes (take block_room area)) (take block_room area)
      → part ++ drop block_room area ≡ over (if_ok a bytes []) area
  kept_block (Ok z) e p = ap (λ (l : List ℕ). l ++ drop block_room area) p ∙ put_over bytes area block_room room (sym (ap length p) ∙ e ∙ same)
  kept_block (Err b) e p = ap (λ (l : List ℕ). l ++ drop block_room area) p ∙ take-append-drop block_room area

  pub finish_always : IsOk r
  finish_always = ap is_ok outcome_is.0

  -- and so how it ended
  ends_by : {e : Ending} (a : Answer) → MatchOption (found a) (e ≡ Open) (λ n. e ≡ Rebuilt n) → e ≡ if_ok a (Rebuilt (length bytes)) Open
  unfolding found
  ends_by (Ok z) h = h
  ends_by (Err b) h = h

  pub finish_closes : {x : End} → r ≡ Ok x → length part ≡ length (take block_room area) → (c : Closing) → MatchOption x.«data» (c.ending ≡ Open) (λ n. c.ending ≡ Rebuilt n) → c.size ≡ x.size
      → Closed (state j elements) (Ok record·.End) 0 area out c (part ++ drop block_room area) last
  unfolding ending_by found_by back answer
  finish_closes {x} is e c p q =
      let same : x ≡ ended (found answer) (length (end_lines j elements block_room)) =
      let b : ◌≡◌ {A = Result End RLNCError} (Ok x) (Ok (ended (found answer) (length (end_lines j elements block_room)))) = sym is ∙ outcome_is.0 in cc in
      record {
        ends = ends_by answer (subst (λ (y : End). MatchOption y.«data» (c.ending ≡ Open) (λ n. c.ending ≡ Rebuilt n)) same p);
        says = λ 𝓕. record { counts = q ∙ ap (λ (y : End). y.size) same; puts = outcome_is.2 };
        block = kept_block (end_answer j.held elements block_room) e outcome_is.1;
      }

-- ---- what the record is

module _ (s : State) (at : ℕ) (area : List ℕ) {then : Result Record RLNCError} {out : List ℕ} where
  pub closes_body : {g : Geometry} → then ≡ Ok (record·.Piece g) → Closed s then at area out (record { ending = NotYet; size = 0 }) area out
  unfolding ending_by found_by back
  closes_body e =
      subst (λ (t : Result Record RLNCError). Closed s t at area out (record { ending = NotYet; size = 0 }) area out) (sym e)
      (record { ends = refl; says = λ 𝓕. record { counts = refl; puts = refl }; block = refl })

  -- the end says nothing of its offset
  pub closes_end : {r : Closing} {area' last : List ℕ} → then ≡ (Ok record·.End) → Closed s (Ok record·.End) 0 area out r area' last → Closed s then at area out r area' last
  unfolding back
  closes_end {r} {area'} {last} e c =
      subst (λ (t : Result Record RLNCError). Closed s t at area out r area' last) (sym e) (record { ends = c.ends; says = c.says; block = c.block })

  pub closes_stop : (b : RLNCError) {n : ℕ} {last : List ℕ} → then ≡ Err b → Front (stop_line (code_of b) at) out n last
      → Closed s then at area out (record { ending = Stopped; size = n }) area last
  unfolding ending_by found_by back
  closes_stop b {n} {last} e f =
      subst (λ (t : Result Record RLNCError). Closed s t at area out (record { ending = Stopped; size = n }) area last) (sym e)
      (record { ends = refl; says = λ 𝓕. f; block = refl })
