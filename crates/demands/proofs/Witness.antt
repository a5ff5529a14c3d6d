-- Demand 3 is about something: the histories are made call by call, and antt computes where they stand.
-- Assumes nothing.
use mathlib.Core.Path.{◌≡◌, refl, ap}
use mathlib.Core.Bool.{Bool, true, false}
use mathlib.Core.List.{List, [], ◌∷◌}
use Prim.Native.Nat.{ℕ, zero, suc}
use native.Mathlib.Nat.{not-suc-le-zero, le_of_suc-le-suc}
use native.Mathlib.Omega.{arith}
use lib.Dec.{T, eqb, ltb, ltb→lt}
use lib.ListN.{length, get_or, take, replicate}
use Rattle.std.specs.Prelude.{Result, Ok, Err}
use Rattle.answers.specs.Number.{Answer, number_of}
use Rattle.answers.specs.declared.RLNCError.{RLNCError}
use Rattle.answers.proofs.Numbers.{numbers_tell}
use Rattle.galois.specs.Gf.{xtime, times, mul, pow, inv}
use Rattle.galois.specs.FieldLaws.{FieldLaws}
use Rattle.galois.proofs.Table.{both, both_left, both_right}
use Rattle.gf256.proofs.Known.{fips}
use Rattle.linear.specs.All.{none, more, Bytes}
use Rattle.linear.specs.Choice.{pick}
use Rattle.linear.specs.Rows.{take_piece, reduce, drop_empty, backward, backward_at, clear_above, forward, forward_at, clear_pivoted, pivot_from, clear_below, clear_by, scale_row, add_multiple, swap_rows, first_nonzero, entry, all_zero}
use Rattle.linear.specs.Pieces.{column, dot, Truthful}
use Rattle.linear.specs.Blocks.{Block, Agrees}
use Rattle.linear.specs.Buffer.{rows_of, flat}
use Rattle.block.specs.Refusal.{if_ok, answered}
use Rattle.block.specs.Sizes.{over_limit, sized}
use Rattle.block.specs.Padding.{Breaks, marker, Carries}
use Rattle.block.specs.Reading.{last_marker, read_at, reading, answer_of}
use Rattle.block.proofs.Reading.{reads_data, reads_broken}
use Rattle.decoder.specs.declared.Decoder.{Decoder}
use Rattle.decoder.specs.declared.Taken.{Taken}
use Rattle.decoder.specs.declared.Taken.TheVariants.{Useful, NotUseful}
use Rattle.decoder.specs.Records.{rows_in, sound, bad_state, held_rows}
use Rattle.decoder.specs.Answers.{taken_number, complete_values}
use Rattle.decoder.specs.Entries.{decoder_of, new_refusal, take_refusal, rows_after, after, taking, completed, block_in, recover_refusal}
use Rattle.decoder.specs.Calls.{number_next, record_next, buffer_next}
use Rattle.demands.specs.History.{History, made, useful}
use Rattle.demands.specs.Witness.{four, five, the_block, zeros, zero_block, After, Witness}

-- a call that answers 0 goes on with the history
module _ {𝓕 : FieldLaws} {k L : ℕ} {d : Decoder} {elements : List ℕ} {pieces : List (List ℕ)} (h : History 𝓕 k L d elements pieces) (full : List ℕ) (b : Bytes full) where
  goes_on : number_next 𝓕 d elements full ≡ 0 → History 𝓕 k L (record_next 𝓕 d elements full) (buffer_next 𝓕 d elements full) (full ∷ pieces)
  unfolding number_next record_next buffer_next taken_number taking
  goes_on e = useful h b (record { result = go (take_refusal d (length elements) (length full)) e; left = refl })
    where
      which : (t : Bool) → taken_number (Ok (pick t (NotUseful (after 𝓕 d elements full)) (Useful (after 𝓕 d elements full)))) ≡ 0
          → Useful (after 𝓕 d elements full) ≡ pick t (NotUseful (after 𝓕 d elements full)) (Useful (after 𝓕 d elements full))
      which true z = absurd (omega arith)
      which false z = refl

      go : (a : Answer) → if_ok a (taken_number (Ok (taking 𝓕 d elements full))) (number_of a) ≡ 0
          → ◌≡◌ {A = Result Taken RLNCError} (Ok (Useful (if_ok a (after 𝓕 d elements full) d))) (answered a (taking 𝓕 d elements full))
      go (Ok u) z = ap Ok (which (eqb (length (rows_after 𝓕 d elements full)) (rows_in d)) z)
      go (Err x) z =
          let e : ◌≡◌ {A = Answer} (Err x) (Ok tt) = (numbers_tell (Err x) (Ok tt)).1 z in
          let never : ◌≡◌ {A = ℕ} 0 1 = cc in
          absurd (omega arith)

-- a list of bytes, tested
abbrev below : List ℕ → Bool
below [] = true
below (x ∷ xs) = both (ltb x 256) (below xs)

pub bytes_of : (xs : List ℕ) → T (below xs) → Bytes xs
bytes_of [] t = none
bytes_of (x ∷ xs) t = more (ltb→lt x 256 (both_left (ltb x 256) (below xs) t)) (bytes_of xs (both_right (ltb x 256) (below xs) t))

unfoldable start : After []
unfolding new_refusal over_limit
start = record {
  decoder = decoder_of 3 2 0 0;
  elements = replicate 15 0;
  history = made {buffer = replicate 15 0} (record { result = refl; left = refl });
}

-- one call more, which antt sees to answer 0
unfoldable next : {pieces : List (List ℕ)} (s : After pieces) (full : List ℕ) → T (below full) → number_next fips s.decoder s.elements full ≡ 0 → After (full ∷ pieces)
next s full t e = record {
  decoder = record_next fips s.decoder s.elements full;
  elements = buffer_next fips s.decoder s.elements full;
  history = goes_on s.history full (bytes_of full t) e;
}

unfoldable after_four : After four
unfolding xtime times mul pow inv take_piece reduce drop_empty backward backward_at clear_above forward forward_at clear_pivoted pivot_from clear_below clear_by scale_row add_multiple swap_rows first_nonzero entry all_zero rows_of flat over_limit sized sound bad_state held_rows taken_number take_refusal rows_after after taking number_next record_next buffer_next start next
after_four =
    next
    (next (next (next start (0 ∷ 0 ∷ 1 ∷ 0x81 ∷ 0 ∷ []) tt refl) (0 ∷ 0 ∷ 1 ∷ 0x81 ∷ 0 ∷ []) tt refl) (0 ∷ 0 ∷ 1 ∷ 0x81 ∷ 0 ∷ []) tt refl)
    (0 ∷ 1 ∷ 0 ∷ 0x63 ∷ 0x64 ∷ []) tt refl

unfoldable after_five : After five
unfolding xtime times mul pow inv take_piece reduce drop_empty backward backward_at clear_above forward forward_at clear_pivoted pivot_from clear_below clear_by scale_row add_multiple swap_rows first_nonzero entry all_zero rows_of flat over_limit sized sound bad_state held_rows taken_number take_refusal rows_after after taking number_next record_next buffer_next start next after_four
after_five = next after_four (1 ∷ 0 ∷ 0 ∷ 0x61 ∷ 0x62 ∷ []) tt refl

unfoldable after_zeros : After zeros
unfolding xtime times mul pow inv take_piece reduce drop_empty backward backward_at clear_above forward forward_at clear_pivoted pivot_from clear_below clear_by scale_row add_multiple swap_rows first_nonzero entry all_zero rows_of flat over_limit sized sound bad_state held_rows taken_number take_refusal rows_after after taking number_next record_next buffer_next start next
after_zeros = next (next (next start (1 ∷ 0 ∷ 0 ∷ 0 ∷ 0 ∷ []) tt refl) (0 ∷ 1 ∷ 0 ∷ 0 ∷ 0 ∷ []) tt refl) (0 ∷ 0 ∷ 1 ∷ 0 ∷ 0 ∷ []) tt refl

the_block_lem : Block 3 2 the_block
the_block_lem = record {
  count = refl;
  sizes = more refl (more refl (more refl none));
  bytes = more (bytes_of (0x61 ∷ 0x62 ∷ []) tt) (more (bytes_of (0x63 ∷ 0x64 ∷ []) tt) (more (bytes_of (0x81 ∷ 0 ∷ []) tt) none));
}

-- byte by byte
pub truthful : (block : List (List ℕ)) (full : List ℕ) → get_or full 3 0 ≡ dot fips (take 3 full) (column 0 block) → get_or full 4 0 ≡ dot fips (take 3 full) (column 1 block)
    → Truthful fips 3 2 block full
unfolding Truthful
truthful block full a b zero h = a
truthful block full a b (suc zero) h = b
truthful block full a b (suc (suc j)) h = absurd (not-suc-le-zero (le_of_suc-le-suc (le_of_suc-le-suc h)))

agrees : Agrees fips 3 2 five the_block
unfolding Agrees dot column xtime times mul
agrees =
    more (truthful the_block (1 ∷ 0 ∷ 0 ∷ 0x61 ∷ 0x62 ∷ []) refl refl)
    (more (truthful the_block (0 ∷ 1 ∷ 0 ∷ 0x63 ∷ 0x64 ∷ []) refl refl)
    (more (truthful the_block (0 ∷ 0 ∷ 1 ∷ 0x81 ∷ 0 ∷ []) refl refl)
    (more (truthful the_block (0 ∷ 0 ∷ 1 ∷ 0x81 ∷ 0 ∷ []) refl refl) (more (truthful the_block (0 ∷ 0 ∷ 1 ∷ 0x81 ∷ 0 ∷ []) refl refl) none))))

carries : Carries marker (flat the_block) (0x61 ∷ 0x62 ∷ 0x63 ∷ 0x64 ∷ [])
unfolding flat reading read_at last_marker all_zero
carries = (reads_data marker (flat the_block) (0x61 ∷ 0x62 ∷ 0x63 ∷ 0x64 ∷ [])).1 (refl, refl)

no_marker : Block 3 2 zero_block
no_marker = record {
  count = refl;
  sizes = more refl (more refl (more refl none));
  bytes = more (bytes_of (0 ∷ 0 ∷ []) tt) (more (bytes_of (0 ∷ 0 ∷ []) tt) (more (bytes_of (0 ∷ 0 ∷ []) tt) none));
}

agrees_too : Agrees fips 3 2 zeros zero_block
unfolding Agrees dot column xtime times mul
agrees_too =
    more (truthful zero_block (0 ∷ 0 ∷ 1 ∷ 0 ∷ 0 ∷ []) refl refl)
    (more (truthful zero_block (0 ∷ 1 ∷ 0 ∷ 0 ∷ 0 ∷ []) refl refl) (more (truthful zero_block (1 ∷ 0 ∷ 0 ∷ 0 ∷ 0 ∷ []) refl refl) none))

broken : Breaks marker (flat zero_block)
unfolding flat reading read_at last_marker answer_of
broken = (reads_broken marker (flat zero_block)).1 refl

pub witness : Witness
unfolding complete_values xtime times mul pow inv take_piece reduce drop_empty backward backward_at clear_above forward forward_at clear_pivoted pivot_from clear_below clear_by scale_row add_multiple swap_rows first_nonzero entry all_zero rows_of flat over_limit sized sound bad_state held_rows taken_number take_refusal rows_after after taking number_next record_next buffer_next start next completed block_in recover_refusal reading read_at last_marker answer_of after_four after_five after_zeros
witness =
    record {
      block = the_block_lem;
      agrees = agrees;
      carries = carries;
      after_four = after_four;
      still_open = refl;
      after_five = after_five;
      closed = refl;
      no_marker = no_marker;
      agrees_too = agrees_too;
      broken = broken;
      after_zeros = after_zeros;
      closed_too = refl;
      no_data = refl;
    }
