-- The listing of a stream of truthful pieces ends with the data where they leave no other block, and with 10 where they leave one; and the data are
-- handed over where they are listed.
-- Assumes nothing.
use mathlib.Core.Path.{◌≡◌, refl, sym, ap, ◌∙◌, subst}
use mathlib.Core.Logic.{◌⊎◌, inl, inr}
use mathlib.Core.List.{List, [], ◌∷◌, ◌++◌, reverse, append_assoc}
use Prim.Native.Nat.{ℕ, ◌+◌, ◌-◌, ◌*◌, ◌≤◌}
use native.Mathlib.Nat.{zero-add, add-zero, add_assoc}
use native.Mathlib.Omega.{arith}
use lib.Dec.{eqb}
use lib.ListN.{length, replicate, length-append, length-drop, length-replicate}
use lib.Seq.{take_all}
use Rattle.std.specs.Prelude.{Some, None, Ok, Err}
use Rattle.answers.specs.declared.RLNCError.TheVariants.{NotAllPiecesReceivedYet}
use Rattle.galois.specs.FieldLaws.{FieldLaws}
use Rattle.linear.specs.All.{more, Bytes}
use Rattle.linear.specs.Choice.{pick}
use Rattle.linear.specs.Blocks.{Block, Unique}
use Rattle.linear.specs.Buffer.{rows_of, flat}
use Rattle.linear.proofs.All.{all_append, zeros_bytes}
use Rattle.linear.proofs.Flat.{flat_front}
use Rattle.block.specs.Padding.{marker, filled, Carries}
use Rattle.block.proofs.Filling.{length_filled}
use Rattle.block.proofs.Reading.{filled_carries}
use Rattle.block.proofs.RowBytes.{block_of_lem}
use Rattle.stream.specs.declared.Geometry.{Geometry}
use Rattle.stream.specs.Geometries.{pieces_of, length_of, body_of}
use Rattle.stream.specs.Streams.{end, of_pieces, stream_of}
use Rattle.stream.proofs.Streams.{round_trip}
use Rattle.decoder.specs.declared.Decoder.{Decoder}
use Rattle.decoder.specs.Records.{rows_in, taken_by, taken_limit, held_rows}
use Rattle.decoder.specs.Entries.{decoder_of, recover_refusal}
use Rattle.decoder.specs.Calls.{number_next, record_next, buffer_next}
use Rattle.stored.specs.Alike.{Alike}
use Rattle.listing.specs.Lines.{header_line, piece_line}
use Rattle.listing.specs.Joining.{nothing, decoder_for, matrix_for, joined, line_of, answer_to, decoder_after, elements_after, joined_after, line_for}
use Rattle.listing.specs.Listing.{end_answer, data_of, end_lines, matrix_length, block_room, lines_from, listing_of}
use Rattle.listing.proofs.Room.{matrix_fits, block_fits, new_fits}
use Rattle.joiner.specs.Machine.{ending_by, found_by}
use Rattle.joiner.specs.Runs.{Close, close_from, close_of}
use Rattle.demands.specs.Calls.{lines, buffer_after, lines_from_new, buffer_from_new}
use Rattle.demands.specs.Resumed.{going_on}
use Rattle.demands.specs.Purpose.{block_of, heard, Sends, sent, numbered, eights, piece_lines, repeats_in, Another, Purpose}
use Rattle.demands.proofs.Resumed.{told, behind_lines, told_alike}
use Rattle.demands.proofs.Fed.{Fed, recovery, nothing_yet, record_after, fed_from_new, unique_back, another_back}

-- ---- the listing in the numbers of `decode`

-- the end, after so many repeats
abbrev end_of : FieldLaws → Decoder → List ℕ → ℕ → List ℕ × Close
end_of 𝓕 d elements repeats = told 𝓕 (going_on d 0 repeats) elements end

-- a new decoder of the geometry, and its matrix
abbrev new_of : Geometry → Decoder
new_of g = decoder_of (pieces_of g) (length_of g) 0 0

abbrev clear_of : Geometry → List ℕ
clear_of g = replicate (pieces_of g * body_of g) 0

module _ (𝓕 : FieldLaws) (g : Geometry) where
  -- the lines of some pieces, and the end
  told_is : (ps : List (List ℕ)) (d : Decoder) (elements : List ℕ) (n m : ℕ)
      → told 𝓕 (going_on d n m) elements (of_pieces g ps)
      ≡ behind_lines (numbered (n + 1) (lines 𝓕 d elements ps))
      (end_of 𝓕 (record_after 𝓕 d elements ps) (buffer_after 𝓕 d elements ps) (m + eights (lines 𝓕 d elements ps)))
  unfolding lines_from close_from of_pieces numbered eights lines record_after buffer_after end_lines ending_by found_by line_for joined_after elements_after decoder_after answer_to decoder_for matrix_for joined line_of
  told_is [] d elements n m = ap (end_of 𝓕 d elements) (sym (add-zero m))
  told_is (p ∷ ps) d elements n m =
      let D : Decoder = record_next 𝓕 d elements p in
      let E : List ℕ = buffer_next 𝓕 d elements p in
      let answer : ℕ = number_next 𝓕 d elements p in
      let repeat : ℕ = pick (eqb answer 8) 1 0 in
      let line : List ℕ = piece_line (n + 1) answer (rows_in D) (taken_by D) in
      let later : List ℕ = numbered (n + 1 + 1) (lines 𝓕 D E ps) in
      let last : ℕ → List ℕ × Close = end_of 𝓕 (record_after 𝓕 D E ps) (buffer_after 𝓕 D E ps) in
      ap (behind_lines line) (told_is ps D E (n + 1) (m + repeat))
      ∙ ap (λ (r : ℕ). behind_lines line (behind_lines later (last r))) (add_assoc m repeat (eights (lines 𝓕 D E ps)))
      ∙ ap (λ (l : List ℕ). (l, (last 0).1)) (sym (append_assoc line later (last (m + (repeat + eights (lines 𝓕 D E ps)))).0))

  -- the first piece makes the decoder; of its matrix the bytes behind k·F are never read
  alike : Alike (new_of g) (matrix_for g None (replicate matrix_length 0)) (clear_of g)
  unfolding matrix_for held_rows rows_of
  alike = record {
    here = simp (length-append, length-replicate, length-drop) (omega (arith, matrix_fits g));
    there = simp length-replicate (omega arith);
    rows = refl;
  }

  begins : (ps : List (List ℕ)) → end_answer (Some (new_of g)) (clear_of g) block_room ≡ Err NotAllPiecesReceivedYet
      → told 𝓕 nothing (replicate matrix_length 0) (of_pieces g ps) ≡ told 𝓕 (going_on (new_of g) 0 0) (clear_of g) (of_pieces g ps)
  unfolding lines_from close_from of_pieces end_lines ending_by found_by end_answer line_for joined_after elements_after decoder_after answer_to decoder_for matrix_for joined line_of
  begins [] e = rw e
  begins (p ∷ ps) e = told_alike 𝓕 (of_pieces g (p ∷ ps)) (new_of g) (matrix_for g None (replicate matrix_length 0)) (clear_of g) alike 0 0

-- ---- the block of the data

module _ (𝓕 : FieldLaws) (g : Geometry) (bytes : List ℕ) (pieces : List (List ℕ)) (x : Sends 𝓕 g bytes pieces (heard pieces)) where
  abbrev size : ℕ
  size = pieces_of g * length_of g

  filled_bytes : Bytes (filled marker size bytes)
  unfolding filled
  filled_bytes = all_append x.data_bytes (more (omega arith) (zeros_bytes (size - (length bytes + 1))))

  is_block : Block (pieces_of g) (length_of g) (block_of g bytes)
  is_block = block_of_lem (pieces_of g) (length_of g) (filled marker size bytes) (omega (arith, length_filled marker size bytes x.fits)) filled_bytes

  carries : Carries marker (flat (block_of g bytes)) bytes
  carries =
      subst (λ (l : List ℕ). Carries marker l bytes)
      (sym (flat_front (length_of g) (pieces_of g) (filled marker size bytes) ∙ take_all size (filled marker size bytes) (omega (arith, length_filled marker size bytes x.fits))))
      (filled_carries marker (λ e. omega arith) bytes x.some size)

  -- ---- the end of the listing

  abbrev D : Decoder
  D = record_after 𝓕 (new_of g) (clear_of g) pieces

  abbrev E : List ℕ
  E = buffer_from_new 𝓕 (pieces_of g) (length_of g) pieces

  abbrev repeats : ℕ
  repeats = repeats_in 𝓕 g pieces

  listed : (behind text : List ℕ) (close : Close) → end_of 𝓕 D E repeats ≡ (text, close)
      → (listing_of 𝓕 (sent g pieces behind) ≡ header_line ++ (piece_lines 𝓕 g pieces ++ text)) × (close_of 𝓕 (sent g pieces behind) ≡ close)
  unfolding listing_of close_of piece_lines repeats_in lines_from_new buffer_from_new end_answer
  listed behind text close e =
      let all : told 𝓕 nothing (replicate matrix_length 0) (stream_of (sent g pieces behind)) ≡ (piece_lines 𝓕 g pieces ++ text, close) =
      ap (told 𝓕 nothing (replicate matrix_length 0)) (round_trip g behind pieces x.sizes)
      ∙ begins 𝓕 g pieces (nothing_yet 𝓕 (pieces_of g) (length_of g) [] (new_fits g (pieces_of g * body_of g) (omega arith)) block_room)
      ∙ told_is 𝓕 g pieces (new_of g) (clear_of g) 0 0
      ∙ ap (behind_lines (piece_lines 𝓕 g pieces)) (ap (end_of 𝓕 D E) (zero-add repeats) ∙ e) in
      (ap (λ (t : List ℕ × Close). header_line ++ t.0) all, ap (λ (t : List ℕ × Close). t.1) all)

  fed : Fed 𝓕 (pieces_of g) (length_of g) (block_of g bytes) (reverse (heard pieces)) D E
  fed = fed_from_new 𝓕 (pieces_of g) (length_of g) (block_of g bytes) (new_fits g (pieces_of g * body_of g) (omega arith)) pieces x.sizes x.piece_bytes x.truthful

  -- the pieces that count are those heard
  pub purpose : Purpose 𝓕 g bytes pieces (heard pieces)
  unfolding Unique lines_from close_from end_lines ending_by found_by end_answer data_of
  purpose = go (recovery fed is_block carries block_room (block_fits g))
    where
      go : ((recover_refusal marker D E block_room ≡ Ok tt) × (data_of (Some D) E ≡ bytes) × Unique 𝓕 (pieces_of g) (length_of g) (reverse (heard pieces)) (block_of g bytes))
          ⊎ ((recover_refusal marker D E block_room ≡ Err NotAllPiecesReceivedYet) × Another 𝓕 (pieces_of g) (length_of g) (reverse (heard pieces)) (block_of g bytes))
          → Purpose 𝓕 g bytes pieces (heard pieces)
      go (inl (ok, is, only)) =
          let u : Unique 𝓕 (pieces_of g) (length_of g) (heard pieces) (block_of g bytes) = unique_back 𝓕 (pieces_of g) (length_of g) (heard pieces) (block_of g bytes) only in
          record {
            rebuilt = λ v behind. listed behind _ _ (rw (ok, is));
            left_open = λ a behind. absurd (a.differs (u a.other a.is_block a.agrees));
            either = inl u;
          }
      go (inr (ten, left)) =
          let a : Another 𝓕 (pieces_of g) (length_of g) (heard pieces) (block_of g bytes) = another_back 𝓕 (pieces_of g) (length_of g) (heard pieces) (block_of g bytes) left in
          record {
            rebuilt = λ u behind. absurd (a.differs (u a.other a.is_block a.agrees));
            left_open = λ o behind. listed behind _ _ (rw ten);
            either = inr a;
          }

-- at most 65,535 pieces: all are
pub purpose_of_few : (𝓕 : FieldLaws) (g : Geometry) (bytes : List ℕ) (pieces : List (List ℕ)) → length pieces ≤ taken_limit
    → Sends 𝓕 g bytes pieces pieces → Purpose 𝓕 g bytes pieces pieces
purpose_of_few 𝓕 g bytes pieces few x =
    let all : heard pieces ≡ pieces = take_all taken_limit pieces few in
    subst (Purpose 𝓕 g bytes pieces) all (purpose 𝓕 g bytes pieces (subst (Sends 𝓕 g bytes pieces) (sym all) x))
