-- A set that is saved and loaded between two pieces prints what it would have printed, and hands over what it would have handed over: the matrix loaded
-- holds the same rows, so each later piece gets the same line and leaves matrices that hold the same rows again.
-- Assumes nothing.
use mathlib.Core.Path.{◌≡◌, refl, sym, ap, ◌∙◌, subst}
use mathlib.Core.Bool.{Bool, true, false}
use mathlib.Core.List.{List, [], ◌++◌}
use Prim.Native.Nat.{ℕ, ◌+◌, ◌*◌, ◌≤◌}
use lib.Dec.{eqb}
use lib.ListN.{length, take}
use Rattle.std.specs.Prelude.{Some, Result, Ok, Err}
use Rattle.answers.specs.Number.{Answer, number_of}
use Rattle.answers.specs.declared.RLNCError.{RLNCError}
use Rattle.answers.specs.declared.RLNCError.TheVariants.{BadState, NotAllPiecesReceivedYet}
use Rattle.galois.specs.FieldLaws.{FieldLaws}
use Rattle.linear.specs.Choice.{pick}
use Rattle.block.specs.Refusal.{if_ok, answered}
use Rattle.block.specs.Padding.{marker}
use Rattle.block.specs.Reading.{reading, data_length}
use Rattle.stream.specs.Streams.{Stream, piece, end, stop}
use Rattle.decoder.specs.declared.Decoder.{Decoder}
use Rattle.decoder.specs.declared.Taken.{Taken}
use Rattle.decoder.specs.Records.{k_of, f_of, rows_in, bad_state}
use Rattle.decoder.specs.Answers.{taken_number, kept}
use Rattle.decoder.specs.Entries.{take_refusal, taking, Decoded, block_in, recover_refusal}
use Rattle.decoder.specs.Calls.{number_next, record_next, buffer_next}
use Rattle.decoder.proofs.Calls.{number_is, record_is}
use Rattle.stored.specs.Entries.{Saving, Loading}
use Rattle.stored.specs.Alike.{Alike}
use Rattle.stored.proofs.Alike.{not_yet, same_state, same_block, same_recovery, takes_alike, loaded_alike}
use Rattle.listing.specs.declared.join.Joining.{Joining}
use Rattle.listing.specs.Lines.{end_line, data_line}
use Rattle.listing.specs.Joining.{decoder_for, matrix_for, joined, line_of, answer_to, decoder_after, elements_after, joined_after, line_for}
use Rattle.listing.specs.Listing.{end_answer, data_of, end_lines, lines_from, block_room}
use Rattle.joiner.specs.declared.Ending.TheVariants.{Rebuilt, Open}
use Rattle.joiner.specs.Machine.{ending_by, found_by}
use Rattle.joiner.specs.Runs.{Close, close_from}
use Rattle.demands.specs.Resumed.{going_on, Resumed}

-- what is said of a stream from there on, and how it closes
abbrev pub told : FieldLaws → Joining → List ℕ → Stream → List ℕ × Close
told 𝓕 j elements later = (lines_from 𝓕 j elements later, close_from 𝓕 j elements later)

-- with these lines before it
abbrev pub behind_lines : List ℕ → List ℕ × Close → List ℕ × Close
behind_lines text x = (text ++ x.0, x.1)

module _ (d : Decoder) (a b : List ℕ) (h : Alike d a b) where
  -- ---- the end: whatever is made of the data, or of a refusal

  ends : {A : Type 0} (made : List ℕ → A) (refused : Answer → A)
      → if_ok (end_answer (Some d) a block_room) (made (data_of (Some d) a)) (refused (end_answer (Some d) a block_room))
      ≡ if_ok (end_answer (Some d) b block_room) (made (data_of (Some d) b)) (refused (end_answer (Some d) b block_room))
  unfolding end_answer data_of recover_refusal
  ends {A} made refused = go (eqb (rows_in d) (k_of d)) refl
    where
      bytes_of : List ℕ → List ℕ
      bytes_of block = take (data_length (reading marker block)) block

      by : List ℕ → Answer → A
      by x r = if_ok r (made (bytes_of (block_in d x))) (refused r)

      early : (x : List ℕ) → eqb (rows_in d) (k_of d) ≡ false → by x (recover_refusal marker d x block_room) ≡ refused (pick (bad_state d (length x)) (Err BadState) (Err NotAllPiecesReceivedYet))
      early x e =
          let answer : recover_refusal marker d x block_room ≡ pick (bad_state d (length x)) (Err BadState) (Err NotAllPiecesReceivedYet) = rw e in
          ap (by x) answer ∙ not_yet (bad_state d (length x)) _ _

      go : (t : Bool) → eqb (rows_in d) (k_of d) ≡ t → by a (recover_refusal marker d a block_room) ≡ by b (recover_refusal marker d b block_room)
      go true e =
          let answer = same_recovery d a b h marker block_room e in
          let block = same_block d a b h e in
          λ i. if_ok (answer i) (made (bytes_of (block i))) (refused (answer i))
      go false e = early a e ∙ ap (λ (t : Bool). refused (pick t (Err BadState) (Err NotAllPiecesReceivedYet))) (same_state d a b h) ∙ sym (early b e)

  -- ---- a piece

  module _ (𝓕 : FieldLaws) (full : List ℕ) where
    answer : List ℕ → Result Taken RLNCError
    answer x = answered (take_refusal d (length x) (length full)) (taking 𝓕 d x full)

    called : (x : List ℕ) → Decoded 𝓕 d x full (answer x) (buffer_next 𝓕 d x full)
    unfolding answer buffer_next
    called x = record { result = refl; left = refl }

    alike : (answer a ≡ answer b) × Alike (kept d (answer a)) (buffer_next 𝓕 d a full) (buffer_next 𝓕 d b full)
    alike = takes_alike d a b h 𝓕 full (called a) (called b)

    same_number : number_next 𝓕 d a full ≡ number_next 𝓕 d b full
    same_number = sym (number_is (called a)) ∙ ap taken_number alike.0 ∙ number_is (called b)

    same_record : record_next 𝓕 d a full ≡ record_next 𝓕 d b full
    same_record = sym (record_is (called a)) ∙ ap (kept d) alike.0 ∙ record_is (called b)

    next_alike : Alike (record_next 𝓕 d b full) (buffer_next 𝓕 d a full) (buffer_next 𝓕 d b full)
    next_alike = subst (λ (x : Decoder). Alike x (buffer_next 𝓕 d a full) (buffer_next 𝓕 d b full)) (record_is (called a) ∙ same_record) alike.1

-- ---- all that follows

pub told_alike : (𝓕 : FieldLaws) (later : Stream) (d : Decoder) (a b : List ℕ) → Alike d a b
    → (n m : ℕ) → told 𝓕 (going_on d n m) a later ≡ told 𝓕 (going_on d n m) b later
unfolding lines_from close_from end_lines ending_by found_by line_for joined_after elements_after decoder_after answer_to decoder_for matrix_for joined line_of
told_alike 𝓕 (piece g full later) d a b h n m =
    let record_same = same_record d a b h 𝓕 full in
    let number_same = same_number d a b h 𝓕 full in
    (λ i. behind_lines (line_of (going_on d n m) (record_same i) (number_same i))
    (told 𝓕 (joined (going_on d n m) (record_same i) (number_same i)) (buffer_next 𝓕 d a full) later))
    ∙ ap (behind_lines (line_of (going_on d n m) (record_next 𝓕 d b full) (number_next 𝓕 d b full)))
    (told_alike 𝓕 later (record_next 𝓕 d b full) (buffer_next 𝓕 d a full) (buffer_next 𝓕 d b full) (next_alike d a b h 𝓕 full) (n + 1)
    (m + pick (eqb (number_next 𝓕 d b full) 8) 1 0))
told_alike 𝓕 end d a b h n m =
    λ i. (
      ends d a b h (λ l. end_line 0 (length l) m ++ data_line l) (λ r. end_line (number_of r) 0 m) i,
      record { ending = ends d a b h (λ l. Rebuilt (length l)) (λ r. Open) i; found = ends d a b h (λ l. l) (λ r. []) i },
    )
told_alike 𝓕 (stop e at) d a b h n m = refl

-- what `save` wrote may be followed by anything, and the buffer that `load` is lent, if it is long enough, may hold anything
pub resumes : (𝓕 : FieldLaws) {d : Decoder} {elements out out' : List ℕ} {n : ℕ} → Saving d elements out (Ok n) out'
    → (behind matrix matrix' : List ℕ) (r : Result Decoder RLNCError) → k_of d * f_of d ≤ length matrix → Loading (take n out' ++ behind) matrix r matrix' → Resumed 𝓕 d elements r matrix'
resumes 𝓕 {d} {elements} s behind matrix matrix' r room l =
    let (e, h) = loaded_alike s behind matrix matrix' r room l in
    record {
      same_record = e;
      same_lines = λ pieces repeats later. ap (λ x. x.0) (told_alike 𝓕 later d elements matrix' h pieces repeats);
      same_close = λ pieces repeats later. ap (λ x. x.1) (told_alike 𝓕 later d elements matrix' h pieces repeats);
    }
