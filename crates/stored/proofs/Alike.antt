-- Every entry reads of a matrix the rows held alone, once the record is good and the matrix long enough. So matrices that hold the same rows get the
-- same answers and come to hold the same rows, and a decoder that was saved and loaded goes on as if it had not been.
-- Assumes nothing.
use mathlib.Core.Path.{◌≡◌, refl, sym, ap, ◌∙◌, subst}
use mathlib.Core.Bool.{Bool, true, false, not, ◌||◌}
use mathlib.Core.List.{List, ◌∷◌, ◌++◌, map}
use Prim.Native.Nat.{ℕ, ◌+◌, ◌-◌, ◌*◌, ◌/◌, ◌%◌, ◌≤◌}
use native.Mathlib.Nat.{mul-le-mul_right, add-mul}
use native.Mathlib.Omega.{arith}
use lib.Dec.{eqb, leb, ltb}
use lib.ListN.{length, take, drop, replicate, length-append, length-drop, length-replicate}
use borrow.Author.Tests.{le-ltb, eqb-true, not-false}
use Rattle.std.specs.Prelude.{Option, Some, None, Result, Ok, Err}
use Rattle.answers.specs.Number.{Answer}
use Rattle.answers.specs.declared.RLNCError.{RLNCError}
use Rattle.answers.specs.declared.RLNCError.TheVariants.{ReceivedAllPieces, NotAllPiecesReceivedYet, InvalidPieceLength, NoRoom, BadState, TooManyTaken}
use Rattle.galois.specs.FieldLaws.{FieldLaws}
use Rattle.linear.specs.All.{All}
use Rattle.linear.specs.Choice.{pick}
use Rattle.linear.specs.Rows.{take_piece}
use Rattle.linear.specs.Buffer.{rows_of, flat, holding}
use Rattle.linear.proofs.Buffer.{sizes_of}
use Rattle.linear.proofs.Flat.{rows_flat, length_flat}
use Rattle.linear.proofs.Sizes.{take_piece_sizes}
use Rattle.block.specs.Refusal.{if_ok, answered}
use Rattle.block.specs.Reading.{reading, answer_of, data_length}
use Rattle.block.proofs.Chosen.{passes}
use Rattle.stream.specs.declared.Geometry.{Geometry}
use Rattle.stream.specs.Geometries.{body_of}
use Rattle.decoder.specs.declared.Decoder.{Decoder}
use Rattle.decoder.specs.declared.Taken.{Taken}
use Rattle.decoder.specs.declared.Taken.TheVariants.{Useful, NotUseful}
use Rattle.decoder.specs.Records.{k_of, l_of, f_of, rows_in, taken_by, sound, bad_state, held_rows}
use Rattle.decoder.proofs.Sound.{Holds, holds}
use Rattle.decoder.specs.Answers.{kept}
use Rattle.decoder.specs.Entries.{decoder_of, take_refusal, rows_after, after, taking, Decoded, block_in, recover_refusal, Recovery}
use Rattle.stored.specs.Forms.{stored_kind, matrix_size, size_geometry, form_of}
use Rattle.stored.specs.Entries.{size_refusal, save_refusal, saved_form, Saving, Loading}
use Rattle.stored.specs.Alike.{Alike}
use Rattle.stored.proofs.Outcomes.{was_saved}
use Rattle.stored.proofs.RoundTrip.{loads_back, same_rows}

-- a buffer that holds rows is long enough
long_enough : (k f : ℕ) (rows : List (List ℕ)) (buffer : List ℕ) → All (λ r. length r ≡ f) rows → k * f ≤ length (holding k f rows buffer)
long_enough k f rows buffer w =
    let n : ℕ = length rows in
    let covers : k * f ≤ (n + (k - n)) * f = mul-le-mul_right f (omega arith) in
    simp (length-append, length-replicate, length-drop, length_flat f rows w) (omega (arith, covers, add-mul n (k - n) f))

held_widths : (d : Decoder) (a : List ℕ) → Holds d (length a) → All (λ r. length r ≡ f_of d) (held_rows d a)
unfolding held_rows
held_widths d a h = sizes_of (f_of d) (rows_in d) a (omega (arith, h.room, mul-le-mul_right (f_of d) h.numbers.rows_pieces))

-- what a piece that is taken tells
let_in : (d : Decoder) (room size : ℕ) → take_refusal d room size ≡ Ok tt → Holds d room × (size ≡ f_of d)
unfolding take_refusal
let_in d room size e =
    let (a, e₁) = passes (bad_state d room) (Err BadState) _ (omega arith) e in
    let (b, e₂) = passes (eqb (rows_in d) (k_of d)) (Err ReceivedAllPieces) _ (omega arith) e₁ in
    let (s, e₃) = passes (not (eqb size (f_of d))) (Err InvalidPieceLength) _ (omega arith) e₂ in
    (holds d room a, eqb-true size (f_of d) (not-false (eqb size (f_of d)) s))

pub not_yet {ℓ} : {A : Type ℓ} (t : Bool) (x y : A) → if_ok (pick t (Err BadState) (Err NotAllPiecesReceivedYet)) x y ≡ y
not_yet true x y = refl
not_yet false x y = refl

none_yet : (t : Bool) (n : ℕ) → answered (pick t (Err BadState) (Err NotAllPiecesReceivedYet)) n ≡ Err (pick t BadState NotAllPiecesReceivedYet)
none_yet true n = refl
none_yet false n = refl

-- with fewer rows than pieces, recovery does not look at the matrix
not_complete : (d : Decoder) (a : List ℕ) (M : ℕ) (out : List ℕ) {r : Result ℕ RLNCError} {last : List ℕ} → eqb (rows_in d) (k_of d) ≡ false → Recovery M d a out r last
    → (r ≡ Err (pick (bad_state d (length a)) BadState NotAllPiecesReceivedYet)) × (last ≡ out)
unfolding recover_refusal
not_complete d a M out e p =
    let early : recover_refusal M d a (length out) ≡ pick (bad_state d (length a)) (Err BadState) (Err NotAllPiecesReceivedYet) = rw e in (
      p.result
          ∙ ap (λ (x : Answer). answered x (data_length (reading M (block_in d a)))) early ∙ none_yet (bad_state d (length a)) _,
      p.left
          ∙ ap (λ (x : Answer). if_ok x (take (data_length (reading M (block_in d a))) (block_in d a) ++ drop (data_length (reading M (block_in d a))) out) out) early
          ∙ not_yet (bad_state d (length a)) _ _,
    )

module _ (d : Decoder) (a b : List ℕ) (h : Alike d a b) where
  pub same_state : bad_state d (length a) ≡ bad_state d (length b)
  unfolding bad_state
  same_state = λ i. not (sound d) || (le-ltb (length a) (k_of d * f_of d) h.here ∙ sym (le-ltb (length b) (k_of d * f_of d) h.there)) i

  -- ---- taking a piece

  module _ (𝓕 : FieldLaws) (full : List ℕ) where
    abbrev refusal : Answer
    refusal = take_refusal d (length a) (length full)

    same_refusal : refusal ≡ take_refusal d (length b) (length full)
    unfolding take_refusal
    same_refusal =
        ap (λ (t : Bool). pick t (Err BadState)
        (pick (eqb (rows_in d) (k_of d)) (Err ReceivedAllPieces)
        (pick (not (eqb (length full) (f_of d))) (Err InvalidPieceLength)
        (pick (leb 65535 (taken_by d)) (Err TooManyTaken) (Ok tt))))) same_state

    same_after : rows_after 𝓕 d a full ≡ rows_after 𝓕 d b full
    unfolding rows_after
    same_after = ap (λ (rows : List (List ℕ)). take_piece 𝓕 (k_of d) rows full) h.rows

    same_taking : taking 𝓕 d a full ≡ taking 𝓕 d b full
    unfolding taking after
    same_taking =
        ap (λ (rows : List (List ℕ)). pick (eqb (length rows) (rows_in d))
        (NotUseful (decoder_of (k_of d) (l_of d) (length rows) (taken_by d + 1)))
        (Useful (decoder_of (k_of d) (l_of d) (length rows) (taken_by d + 1)))) same_after

    kept_is : kept d (Ok (taking 𝓕 d a full)) ≡ after 𝓕 d a full
    unfolding kept taking
    kept_is = go (eqb (length (rows_after 𝓕 d a full)) (rows_in d))
      where
        go : (t : Bool) → kept d (Ok (pick t (NotUseful (after 𝓕 d a full)) (Useful (after 𝓕 d a full)))) ≡ after 𝓕 d a full
        go true = refl
        go false = refl

    after_alike : refusal ≡ Ok tt
        → Alike (after 𝓕 d a full) (holding (k_of d) (f_of d) (rows_after 𝓕 d a full) a) (holding (k_of d) (f_of d) (rows_after 𝓕 d b full) b)
    unfolding after held_rows rows_after
    after_alike e =
        let (n, whole) = let_in d (length a) (length full) e in
        let w : All (λ r. length r ≡ f_of d) (rows_after 𝓕 d a full) =
        take_piece_sizes 𝓕 (k_of d) (f_of d) (held_rows d a) full (held_widths d a n) whole in
        let w' : All (λ r. length r ≡ f_of d) (rows_after 𝓕 d b full) = subst (All (λ r. length r ≡ f_of d)) same_after w in
        record {
          here = long_enough (k_of d) (f_of d) (rows_after 𝓕 d a full) a w;
          there = long_enough (k_of d) (f_of d) (rows_after 𝓕 d b full) b w';
          rows =
              rows_flat (f_of d) (rows_after 𝓕 d a full) _ w ∙ same_after ∙ sym (rows_flat (f_of d) (rows_after 𝓕 d b full) _ w')
              ∙ ap (λ (n : ℕ). rows_of (f_of d) n (holding (k_of d) (f_of d) (rows_after 𝓕 d b full) b)) (sym (ap length same_after));
        }

    -- the same answer, and matrices alike beside the record after it
    pub takes_alike : {r r' : Result Taken RLNCError} {a' b' : List ℕ} → Decoded 𝓕 d a full r a' → Decoded 𝓕 d b full r' b' → (r ≡ r') × Alike (kept d r) a' b'
    unfolding kept
    takes_alike {r} {r'} {a'} {b'} p q = (
      p.result ∙ (λ i. answered (same_refusal i) (same_taking i)) ∙ sym q.result,
      go refusal refl p.result p.left
          (q.left ∙ ap (λ (x : Answer). if_ok x (holding (k_of d) (f_of d) (rows_after 𝓕 d b full) b) b) (sym same_refusal)),
    )
      where
        go : (m : Answer) → refusal ≡ m → r ≡ answered m (taking 𝓕 d a full)
            → a' ≡ if_ok m (holding (k_of d) (f_of d) (rows_after 𝓕 d a full) a) a → b' ≡ if_ok m (holding (k_of d) (f_of d) (rows_after 𝓕 d b full) b) b
            → Alike (kept d r) a' b'
        go (Ok z) e r_is a_is b_is =
            subst (λ (x : Decoder). Alike x a' b') (sym (ap (kept d) r_is ∙ kept_is))
            (subst (λ (x : List ℕ). Alike (after 𝓕 d a full) x b') (sym a_is)
            (subst (λ (x : List ℕ). Alike (after 𝓕 d a full) (holding (k_of d) (f_of d) (rows_after 𝓕 d a full) a) x) (sym b_is) (after_alike e)))
        go (Err m) e r_is a_is b_is =
            subst (λ (x : Decoder). Alike x a' b') (sym (ap (kept d) r_is))
            (subst (λ (x : List ℕ). Alike d x b') (sym a_is) (subst (λ (x : List ℕ). Alike d a x) (sym b_is) h))

  -- ---- recovering, and saving again

  pub same_block : eqb (rows_in d) (k_of d) ≡ true → block_in d a ≡ block_in d b
  unfolding block_in held_rows
  same_block e =
      let all : rows_in d ≡ k_of d = eqb-true (rows_in d) (k_of d) e in
      ap (λ (n : ℕ). flat (map (drop (k_of d)) (rows_of (f_of d) n a))) (sym all) ∙ ap (λ (rows : List (List ℕ)). flat (map (drop (k_of d)) rows)) h.rows
      ∙ ap (λ (n : ℕ). flat (map (drop (k_of d)) (rows_of (f_of d) n b))) all

  pub same_recovery : (M room : ℕ) → eqb (rows_in d) (k_of d) ≡ true → recover_refusal M d a room ≡ recover_refusal M d b room
  unfolding recover_refusal
  same_recovery M room e =
      λ i. pick (same_state i) (Err BadState)
      (pick (not (eqb (rows_in d) (k_of d))) (Err NotAllPiecesReceivedYet)
      (pick (ltb room (k_of d * l_of d)) (Err NoRoom) (answer_of (reading M (same_block e i)))))

  pub recovers_alike : (M : ℕ) (out : List ℕ) {r r' : Result ℕ RLNCError} {last last' : List ℕ} → Recovery M d a out r last → Recovery M d b out r' last'
      → (r ≡ r') × (last ≡ last')
  recovers_alike M out {r} {r'} {last} {last'} p q = go (eqb (rows_in d) (k_of d)) refl
    where
      go : (t : Bool) → eqb (rows_in d) (k_of d) ≡ t → (r ≡ r') × (last ≡ last')
      go true e =
          let block : block_in d a ≡ block_in d b = same_block e in
          let same : recover_refusal M d a (length out) ≡ recover_refusal M d b (length out) = same_recovery M (length out) e in (
            p.result ∙ (λ i. answered (same i) (data_length (reading M (block i)))) ∙ sym q.result,
            p.left ∙ (λ i. if_ok (same i) (take (data_length (reading M (block i))) (block i) ++ drop (data_length (reading M (block i))) out) out) ∙ sym q.left,
          )
      go false e =
          let (f, g) = not_complete d a M out e p in
          let (f', g') = not_complete d b M out e q in
          (f ∙ ap (λ (t : Bool). Err (pick t BadState NotAllPiecesReceivedYet)) same_state ∙ sym f', g ∙ sym g')

  same_form : (z : Option Geometry) → saved_form z d a ≡ saved_form z d b
  unfolding saved_form form_of
  same_form None = refl
  same_form (Some g) =
      ap (λ (rows : List (List ℕ)). stored_kind g ∷ rows_in d ∷ taken_by d / 256 ∷ taken_by d % 256 ∷ (flat rows ++ replicate (matrix_size g - rows_in d * body_of g) 0))
      h.rows

  same_saving : (room : ℕ) → save_refusal d (length a) room ≡ save_refusal d (length b) room
  unfolding save_refusal
  same_saving room = ap (λ (t : Bool). pick t (Err BadState) (size_refusal (size_geometry (k_of d) (l_of d)) room)) same_state

  pub saves_alike : (out : List ℕ) {r r' : Result ℕ RLNCError} {last last' : List ℕ} → Saving d a out r last → Saving d b out r' last' → (r ≡ r') × (last ≡ last')
  saves_alike out p q =
      let form : saved_form (size_geometry (k_of d) (l_of d)) d a ≡ saved_form (size_geometry (k_of d) (l_of d)) d b = same_form (size_geometry (k_of d) (l_of d)) in
      let same : save_refusal d (length a) (length out) ≡ save_refusal d (length b) (length out) = same_saving (length out) in (
        p.result ∙ (λ i. answered (same i) (length (form i))) ∙ sym q.result,
        p.left ∙ (λ i. if_ok (same i) (form i ++ drop (length (form i)) out) out) ∙ sym q.left,
      )

-- ---- what was saved and loaded is alike

pub loaded_alike : {d : Decoder} {elements out out' : List ℕ} {n : ℕ} → Saving d elements out (Ok n) out'
    → (behind matrix matrix' : List ℕ) (r : Result Decoder RLNCError) → k_of d * f_of d ≤ length matrix → Loading (take n out' ++ behind) matrix r matrix'
    → (r ≡ Ok d) × Alike d elements matrix'
loaded_alike {d} {elements} {out} {out'} {n} s behind matrix matrix' r room l =
    let (e, m) = loads_back s behind matrix matrix' r room l in
    let h = holds d (length elements) (was_saved d elements out n out' s).fine in (
      e,
      subst (Alike d elements) (sym m)
          (record {
            here = h.room;
            there = long_enough (k_of d) (f_of d) (held_rows d elements) matrix (held_widths d elements h);
            rows = sym (same_rows s matrix);
          }),
    )
