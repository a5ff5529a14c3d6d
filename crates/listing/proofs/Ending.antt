-- The outcomes of the end: a refusal, an end line alone where recovery refuses, and with a line of the data where it does not.
-- Assumes nothing.
use mathlib.Core.Path.{◌≡◌, refl, sym, ap, ◌∙◌}
use mathlib.Core.List.{List, ◌++◌}
use Prim.Native.Nat.{ℕ, ◌+◌, ◌*◌, ◌≤◌, ◌<◌}
use native.Mathlib.Omega.{arith}
use borrow.Author.Tests.{lt-ltb, le-ltb}
use lib.ListN.{length, take, drop, length-append}
use lib.Seq.{length-take-le, take_at}
use Rattle.std.specs.Prelude.{Option, None, Some, Result, Ok, Err}
use Rattle.answers.specs.Number.{code_of}
use Rattle.answers.specs.declared.RLNCError.{RLNCError}
use Rattle.answers.specs.declared.RLNCError.TheVariants.{NoRoom, NotAllPiecesReceivedYet}
use Rattle.block.specs.declared.BrokenPadding.{BrokenPadding}
use Rattle.block.specs.Refusal.{if_ok, answered}
use Rattle.block.specs.Padding.{marker}
use Rattle.block.specs.Reading.{reading, data_length}
use Rattle.block.proofs.Reading.{Reason, reason, no_marker, no_data, no_zeros, carried}
use Rattle.decoder.specs.declared.Decoder.{Decoder}
use Rattle.decoder.specs.Entries.{block_in, recover_refusal, Recovery}
use Rattle.listing.specs.declared.join.Joining.{Joining}
use Rattle.listing.specs.Lines.{end_line, data_line}
use Rattle.listing.specs.Puts.{Lined}
use Rattle.listing.specs.Listing.{end_answer, data_of, end_lines}
use Rattle.listing.specs.Steps.{line_room, end_refusal, ended, Recovered, Finished}
use Rattle.block.proofs.Answered.{with_value, with_error}
use Rattle.listing.proofs.Counting.{put_size, put_text}
use Rattle.listing.proofs.Hex.{length_data_line}
use Rattle.listing.proofs.Short.{end_short}

-- ---- what recovery answered

within : (M : ℕ) (block : List ℕ) {p : Result ℕ BrokenPadding} → Reason M block p → data_length p ≤ length block
unfolding data_length
within M block (no_marker n) = omega arith
within M block (no_data l) = omega arith
within M block (no_zeros i j l a b n) = omega arith
within M block (carried l n z) = omega (arith, l.inside)

length_data : (d : Decoder) (elements : List ℕ) → length (data_of (Some d) elements) ≡ data_length (reading marker (block_in d elements))
unfolding data_of
length_data d elements =
    length-take-le (data_length (reading marker (block_in d elements))) (block_in d elements) (within marker (block_in d elements) (reason marker (block_in d elements)))

module _ {elements area : List ℕ} where
  pub recovered_nothing : {held : Option Decoder} {r : Result ℕ RLNCError} → held ≡ None → r ≡ Err NotAllPiecesReceivedYet → Recovered held elements area r area
  unfolding end_answer
  recovered_nothing n e = record { result = rw n e; left = rw n refl }

  pub recovered : {d : Decoder} {last : List ℕ} {r : Result ℕ RLNCError} → Recovery marker d elements area r last → Recovered (Some d) elements area r last
  unfolding end_answer data_of
  recovered {d} x =
      let n = sym (length_data d elements) in
      let a = recover_refusal marker d elements (length area) in
      record {
        result = x.result ∙ ap (answered a) n;
        left = x.left ∙ ap (λ (m : ℕ). if_ok a (data_of (Some d) elements ++ drop m area) area) n;
      }

module _ {held : Option Decoder} {elements area last : List ℕ} {r : Result ℕ RLNCError} (x : Recovered held elements area r last) where
  abbrev bytes : List ℕ
  bytes = data_of held elements

  pub found : {n : ℕ} → r ≡ Ok n → (end_answer held elements (length area) ≡ Ok tt) × (n ≡ length bytes) × (last ≡ bytes ++ drop (length bytes) area)
  found e = let v = with_value (end_answer held elements (length area)) (sym e ∙ x.result) in (v.0, v.1, rw v.0 at x.left)

  pub not_found : {b : RLNCError} → r ≡ Err b → (end_answer held elements (length area) ≡ Err b) × (last ≡ area)
  not_found e = let v = with_error (end_answer held elements (length area)) (length bytes) (sym e ∙ x.result) in (v, rw v at x.left)

  -- the data that were written, and that they lie in the buffer
  pub found_data : {n : ℕ} → r ≡ Ok n → take n last ≡ bytes
  found_data {n} e = let f = found e in ap (take n) f.2 ∙ take_at bytes (drop (length bytes) area) n (sym f.1)

  pub found_within : {n : ℕ} → r ≡ Ok n → n ≤ length last
  found_within e = let f = found e in omega (arith, f.1, ap length f.2, length-append bytes (drop (length bytes) area))

-- ---- the lines of the end

passed : (room out : ℕ) → line_room + (room * 2 + 1) ≤ out → end_refusal room out ≡ Ok tt
unfolding end_refusal
passed room out h = simp (le-ltb _ _ h)

pub lines_fit : (bytes : List ℕ) (repeats room : ℕ) → line_room + (length bytes * 2 + 1) ≤ room
    → length (end_line 0 (length bytes) repeats ++ data_line bytes) ≤ room
lines_fit bytes repeats room h =
    omega (arith, length-append (end_line 0 (length bytes) repeats) (data_line bytes), end_short 0 (length bytes) repeats, length_data_line bytes)

module _ {j : Joining} {elements area out : List ℕ} where
  pub end_refused : length out < line_room + (length area * 2 + 1) → Finished j elements area out (Err NoRoom) area out
  unfolding end_refusal
  end_refused h = record { result = simp (lt-ltb _ _ h); left = simp (lt-ltb _ _ h); printed = simp (lt-ltb _ _ h) }

  -- recovery refused
  pub ended_alone : {e : RLNCError} {n : ℕ} {text : List ℕ} {r : Result ℕ RLNCError} → line_room + (length area * 2 + 1) ≤ length out
      → end_answer j.held elements (length area) ≡ Err e → Lined (end_line (code_of e) 0 j.repeats) out r text → r ≡ Ok n
      → Finished j elements area out (Ok (ended None n)) area text
  unfolding end_lines
  ended_alone {e} {n} h p l q =
      let ok = passed (length area) (length out) h in
      let fits : length (end_line (code_of e) 0 j.repeats) ≤ length out = omega (arith, end_short (code_of e) 0 j.repeats) in
      record { result = rw (ok, p) (ap (λ (m : ℕ). Ok (ended None m)) (put_size l fits n q)); left = rw (ok, p) refl; printed = rw (ok, p) (put_text l fits) }

  -- it did not
  pub ended_data : {n size : ℕ} {bytes kept text : List ℕ} {r : Result ℕ RLNCError} → line_room + (length area * 2 + 1) ≤ length out
      → (end_answer j.held elements (length area) ≡ Ok tt) × (n ≡ length (data_of j.held elements))
      × (kept ≡ data_of j.held elements ++ drop (length (data_of j.held elements)) area)
      → bytes ≡ data_of j.held elements → length bytes ≤ length area → Lined (end_line 0 (length bytes) j.repeats ++ data_line bytes) out r text → r ≡ Ok size
      → Finished j elements area out (Ok (ended (Some n) size)) kept text
  unfolding end_lines
  ended_data {n} {size} {bytes} {r = r} h f d few l q =
      let ok = passed (length area) (length out) h in
      let fits = lines_fit bytes j.repeats (length out) (omega arith) in
      let lines : end_line 0 (length bytes) j.repeats ++ data_line bytes ≡ end_line 0 (length (data_of j.held elements)) j.repeats ++ data_line (data_of j.held elements) =
      λ i. end_line 0 (length (d i)) j.repeats ++ data_line (d i) in
      record {
        result = rw (ok, f.0) (λ i. Ok (ended (Some (f.1 i)) ((put_size l fits size q ∙ ap length lines) i)));
        left = rw (ok, f.0) f.2;
        printed = rw (ok, f.0) (put_text l fits ∙ λ i. lines i ++ drop (length (lines i)) out);
      }

-- the one outcome of an end that is not refused
pub ends : (j : Joining) (elements area out : List ℕ) → line_room + (length area * 2 + 1) ≤ length out
    → Finished j elements area out
    (Ok (ended (if_ok (end_answer j.held elements (length area)) (Some (length (data_of j.held elements))) None) (length (end_lines j elements (length area)))))
    (if_ok (end_answer j.held elements (length area)) (data_of j.held elements ++ drop (length (data_of j.held elements)) area) area)
    (end_lines j elements (length area) ++ drop (length (end_lines j elements (length area))) out)
ends j elements area out h = let ok = passed (length area) (length out) h in record { result = rw ok refl; left = rw ok refl; printed = rw ok refl }
