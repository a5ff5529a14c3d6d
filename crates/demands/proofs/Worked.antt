-- The lines worked by hand: antt computes each from the definitions. Of P13 the tests of a byte against the marker are given.
-- Assumes nothing.
use mathlib.Core.Path.{◌≡◌, refl, sym, ap}
use mathlib.Core.Logic.{◌≢◌}
use mathlib.Core.List.{[], ◌∷◌}
use Prim.Native.Nat.{ℕ, zero, suc}
use lib.ListN.{take}
use borrow.Author.Tests.{eq-eqb, ne_eqb}
use Rattle.std.specs.Prelude.{Result, Ok, Err}
use Rattle.answers.specs.Number.{number_of}
use Rattle.galois.specs.Gf.{xtime, times, mul, pow, inv}
use Rattle.galois.specs.Quotient.{values_of, inverse_of}
use Rattle.gf256.proofs.Lists.{powers, logs}
use Rattle.linear.specs.Rows.{take_piece, reduce, drop_empty, backward, backward_at, clear_above, forward, forward_at, clear_pivoted, pivot_from, clear_below, clear_by, scale_row, add_multiple, swap_rows, first_nonzero, entry, all_zero}
use Rattle.linear.specs.Pieces.{combine, recode}
use Rattle.linear.specs.Buffer.{rows_of, flat}
use Rattle.block.specs.declared.BrokenPadding.{BrokenPadding}
use Rattle.block.specs.declared.BrokenPadding.TheVariants.{MarkerAbsent, MarkerFirst, TailNotZero}
use Rattle.block.specs.Sizes.{over_limit, sized}
use Rattle.block.specs.Padding.{piece_length, filled, padded}
use Rattle.block.specs.Reading.{last_marker, read_at, reading, answer_of, data_length}
use Rattle.decoder.specs.Records.{sound, bad_state, held_rows}
use Rattle.decoder.specs.Answers.{taken_number}
use Rattle.decoder.specs.Entries.{take_refusal, rows_after, after, taking}
use Rattle.decoder.specs.Calls.{number_next, record_next, buffer_next}
use Rattle.demands.specs.Calls.{lines, buffer_after, lines_from_new, buffer_from_new}
use Rattle.demands.specs.Worked.{Worked}

-- P13: a zero is no marker, nor is a
module _ (M a : ℕ) (m : M ≢ 0) where
  first : reading M (M ∷ 0 ∷ []) ≡ Err MarkerFirst
  unfolding reading read_at last_marker
  first = rw (eq-eqb M M refl, ne_eqb 0 M (λ e. m (sym e)))

  one : reading M (a ∷ M ∷ 0 ∷ []) ≡ Ok 1
  unfolding reading read_at last_marker all_zero
  one = rw (eq-eqb M M refl, ne_eqb 0 M (λ e. m (sym e)))

  two : reading M (a ∷ M ∷ M ∷ 0 ∷ []) ≡ Ok 2
  unfolding reading read_at last_marker all_zero
  two = rw (eq-eqb M M refl, ne_eqb 0 M (λ e. m (sym e)))

absent : (M a : ℕ) → a ≢ M → reading M (a ∷ a ∷ []) ≡ Err MarkerAbsent
unfolding reading read_at last_marker
absent M a n = rw (ne_eqb a M n)

tail : (M a : ℕ) → a ≢ 0 → a ≢ M → reading M (a ∷ M ∷ a ∷ []) ≡ Err TailNotZero
unfolding reading read_at last_marker all_zero
tail M zero z n = absurd (z refl)
tail M (suc a) z n = rw (eq-eqb M M refl, ne_eqb (suc a) M n)

pub worked : Worked
unfolding answer_of data_length xtime times mul pow inv values_of inverse_of powers logs take_piece reduce drop_empty backward backward_at clear_above forward forward_at clear_pivoted pivot_from clear_below clear_by scale_row add_multiple swap_rows first_nonzero entry all_zero combine recode rows_of flat over_limit sized piece_length filled padded sound bad_state held_rows taken_number take_refusal rows_after after taking number_next record_next buffer_next lines buffer_after lines_from_new buffer_from_new
worked =
    record {
      p1 = refl;
      p2 = refl;
      p3 = refl;
      p4_one = refl;
      p4_exponent = refl;
      p4_read = refl;
      p4_two = refl;
      p4_none = refl;
      p5_length = refl;
      p5 = λ M b. refl;
      p6_four = refl;
      p6_zero = λ M a b c d. refl;
      p6_five = refl;
      p6_none = λ M a b c d e. refl;
      p6_six = refl;
      p7 = refl;
      p8 = refl;
      p9 = refl;
      p10 = refl;
      p11 = refl;
      p12 = refl;
      p13_first = λ M m. ap (λ (x : Result ℕ BrokenPadding). number_of (answer_of x)) (first M 0 m);
      p13_one = λ M a m. (ap (λ (x : Result ℕ BrokenPadding). number_of (answer_of x)) (one M a m), ap (λ (x : Result ℕ BrokenPadding). take (data_length x) (a ∷ M ∷ 0 ∷ [])) (one M a m));
      p13_two = λ M a m. (ap (λ (x : Result ℕ BrokenPadding). number_of (answer_of x)) (two M a m), ap (λ (x : Result ℕ BrokenPadding). take (data_length x) (a ∷ M ∷ M ∷ 0 ∷ [])) (two M a m));
      p13_absent = λ M a n. ap (λ (x : Result ℕ BrokenPadding). number_of (answer_of x)) (absent M a n);
      p13_tail = λ M a z n. ap (λ (x : Result ℕ BrokenPadding). number_of (answer_of x)) (tail M a z n);
    }
