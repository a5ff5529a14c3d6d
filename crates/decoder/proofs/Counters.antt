-- The counters over a decoder's own calls: a new record's numbers are good, and a piece leaves them good, since rows grows by one at most and taken by
-- one exactly. Taken counts the answers 0 and 8.
-- Assumes nothing.
use mathlib.Core.Path.{◌≡◌, refl, sym, ap, subst, ◌∙◌}
use mathlib.Core.Bool.{Bool, true, false, not}
use mathlib.Core.Logic.{◌⊎◌, inl, inr, ⊎_elim}
use mathlib.Core.List.{List, [], ◌∷◌, ◌++◌}
use Prim.Native.Nat.{ℕ, ◌+◌, ◌≤◌}
use native.Mathlib.Nat.{add-zero}
use native.Mathlib.Omega.{arith}
use lib.Dec.{eqb, leb}
use borrow.Author.Tests.{eqb-false}
use lib.ListN.{length, length-append}
use Rattle.std.specs.Prelude.{Result, Ok, Err}
use Rattle.answers.specs.Number.{Answer, code_of}
use Rattle.answers.specs.declared.RLNCError.{RLNCError}
use Rattle.answers.specs.declared.RLNCError.TheVariants.{PieceCountZero, PieceLengthZero, SizeOverLimit, BadState, ReceivedAllPieces, InvalidPieceLength, TooManyTaken}
use Rattle.galois.specs.FieldLaws.{FieldLaws}
use Rattle.linear.specs.Choice.{pick}
use Rattle.linear.specs.Rows.{take_piece}
use Rattle.linear.proofs.Buffer.{length_rows_of}
use Rattle.linear.proofs.Steps.{reduce_le}
use Rattle.block.specs.Sizes.{over_limit}
use Rattle.block.specs.Refusal.{answered}
use Rattle.block.proofs.Bounds.{limited}
use Rattle.block.proofs.Chosen.{passes}
use Rattle.decoder.specs.declared.Decoder.{Decoder}
use Rattle.decoder.specs.declared.Taken.{Taken}
use Rattle.decoder.specs.declared.Taken.TheVariants.{Useful, NotUseful}
use Rattle.decoder.specs.Records.{k_of, f_of, rows_in, taken_by, sound, bad_state, held_rows}
use Rattle.decoder.specs.Answers.{taken_number, takes, kept}
use Rattle.decoder.specs.Entries.{decoder_of, new_refusal, NewDecoder, take_refusal, rows_after, after, taking, Decoded}
use Rattle.decoder.proofs.Sound.{Sound, shown}
use Rattle.decoder.proofs.Accepted.{Accepted, accepted}

-- ---- a new record

pub new_sound : {L k : ℕ} {elements last : List ℕ} {d : Decoder} → NewDecoder L k elements (Ok d) last → sound d ≡ true
unfolding new_refusal
new_sound {L} {k} {elements} {last} {d} h =
    let (fine, same) = made (new_refusal L k (length elements)) h.result in
    let bytes = passes (eqb L 0) (Err PieceLengthZero) _ (omega arith) fine in
    let pieces = passes (eqb k 0) (Err PieceCountZero) _ (omega arith) bytes.1 in
    let limits = limited k L (passes (over_limit k L) (Err SizeOverLimit) _ (omega arith) pieces.1).0 in
    ap sound same ∙ shown (decoder_of k L 0 0) (record {
      some_pieces = eqb-false k 0 pieces.0;
      some_bytes = eqb-false L 0 bytes.0;
      pieces = limits.pieces;
      bytes = limits.bytes;
      rows_pieces = omega arith;
      rows_taken = omega arith;
      taken = omega arith;
    })
  where
    made : (a : Answer) → Ok d ≡ answered a (decoder_of k L 0 0) → (a ≡ Ok tt) × (d ≡ decoder_of k L 0 0)
    made (Ok tt) e = (refl, cc)
    made (Err x) e = (cc, cc)

-- ---- rows and taken after a piece

pub held_count : (d : Decoder) (elements : List ℕ) → length (held_rows d elements) ≡ rows_in d
unfolding held_rows
held_count d elements = length_rows_of (f_of d) (rows_in d) elements

module _ (𝓕 : FieldLaws) (d : Decoder) (elements full : List ℕ) where
  pub rows_grow : length (rows_after 𝓕 d elements full) ≤ rows_in d + 1
  unfolding rows_after take_piece
  rows_grow =
      let shorter = reduce_le 𝓕 (k_of d) (held_rows d elements ++ (full ∷ [])) in
      omega (arith, shorter, length-append (held_rows d elements) (full ∷ []), held_count d elements)

  pub after_sound : take_refusal d (length elements) (length full) ≡ Ok tt → sound (after 𝓕 d elements full) ≡ true
  unfolding after
  after_sound e =
      let a : Accepted d (length elements) (length full) = accepted d (length elements) (length full) e in
      let s : Sound d = a.held.numbers in
      shown _ (record {
        some_pieces = s.some_pieces;
        some_bytes = s.some_bytes;
        pieces = s.pieces;
        bytes = s.bytes;
        rows_pieces = omega (arith, rows_grow, a.missing);
        rows_taken = omega (arith, rows_grow, s.rows_taken);
        taken = omega (arith, a.wanted);
      })

  pub after_taken : taken_by (after 𝓕 d elements full) ≡ taken_by d + 1
  unfolding after
  after_taken = refl

  -- both answers to a piece that is taken
  taking_cases : (P : Taken → Type 0) → P (NotUseful (after 𝓕 d elements full)) → P (Useful (after 𝓕 d elements full))
      → P (taking 𝓕 d elements full)
  unfolding taking
  taking_cases P n u = go (eqb (length (rows_after 𝓕 d elements full)) (rows_in d))
    where
      go : (t : Bool) → P (pick t (NotUseful (after 𝓕 d elements full)) (Useful (after 𝓕 d elements full)))
      go true = n
      go false = u

-- ---- over the answers of `decode`

-- the order ends with Ok, or with an error whose number takes no piece
refusal : (d : Decoder) (room size : ℕ)
    → (take_refusal d room size ≡ Ok tt) ⊎ ((e : RLNCError) × (take_refusal d room size ≡ Err e) × (takes (code_of e) ≡ 0))
unfolding take_refusal takes
refusal d room size = go (bad_state d room) (eqb (rows_in d) (k_of d)) (not (eqb size (f_of d))) (leb 65535 (taken_by d))
  where
    chain : Bool → Bool → Bool → Bool → Answer
    chain b a l m = pick b (Err BadState) (pick a (Err ReceivedAllPieces) (pick l (Err InvalidPieceLength) (pick m (Err TooManyTaken) (Ok tt))))

    go : (b a l m : Bool) → (chain b a l m ≡ Ok tt) ⊎ ((e : RLNCError) × (chain b a l m ≡ Err e) × (takes (code_of e) ≡ 0))
    go true a l m = inr (BadState, refl, refl)
    go false true l m = inr (ReceivedAllPieces, refl, refl)
    go false false true m = inr (InvalidPieceLength, refl, refl)
    go false false false true = inr (TooManyTaken, refl, refl)
    go false false false false = inl refl

module _ {𝓕 : FieldLaws} {d : Decoder} {elements full last : List ℕ} {r : Result Taken RLNCError} (h : Decoded 𝓕 d elements full r last) where
  decoded_cases : (P : Result Taken RLNCError → Type 0) → ((e : RLNCError) → takes (code_of e) ≡ 0 → P (Err e))
      → (take_refusal d (length elements) (length full) ≡ Ok tt → P (Ok (taking 𝓕 d elements full))) → P r
  decoded_cases P n t =
      subst P (sym h.result) (⊎_elim (λ e. rw e (t e)) (λ q. rw q.1 (n q.0 q.2)) (refusal d (length elements) (length full)))

  -- a record whose numbers are good keeps them good
  pub stays_sound : sound d ≡ true → sound (kept d r) ≡ true
  unfolding kept
  stays_sound s =
      decoded_cases (λ x. sound (kept d x) ≡ true) (λ a n. s)
      (λ e. taking_cases 𝓕 d elements full (λ x. sound (kept d (Ok x)) ≡ true) (after_sound 𝓕 d elements full e) (after_sound 𝓕 d elements full e))

  -- "Taken equals the number of answers 0 and 8"
  pub counts_taken : taken_by (kept d r) ≡ taken_by d + takes (taken_number r)
  unfolding kept takes taken_number
  counts_taken =
      decoded_cases (λ x. taken_by (kept d x) ≡ taken_by d + takes (taken_number x))
      (λ a n. sym (ap (λ (m : ℕ). taken_by d + m) n ∙ add-zero (taken_by d)))
      (λ e.
      taking_cases 𝓕 d elements full (λ x. taken_by (kept d (Ok x)) ≡ taken_by d + takes (taken_number (Ok x))) (after_taken 𝓕 d elements full)
      (after_taken 𝓕 d elements full))
