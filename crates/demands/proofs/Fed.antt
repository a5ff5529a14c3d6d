-- A decoder that is fed the pieces of a stream: while it is not complete it has taken all that came, up to the limit. So it is complete exactly
-- where they leave no other block, and recovery answers by that.
-- Assumes nothing.
use mathlib.Core.Path.{◌≡◌, refl, sym, ap, ◌∙◌, subst}
use mathlib.Core.Logic.{◌⊎◌, inl, inr}
use mathlib.Core.Bool.{Bool, true, false}
use mathlib.Core.List.{List, [], ◌∷◌, reverse_aux, reverse, append-nil}
use Prim.Native.Nat.{ℕ, zero, suc, ◌+◌, ◌*◌, ◌≤◌, ◌<◌}
use native.Mathlib.Nat.{pos_of_ne-zero}
use native.Mathlib.Omega.{arith}
use borrow.Author.Tests.{eq-eqb, ne_eqb, le-ltb, le-leb, lt-leb}
use lib.Dec.{eqb}
use lib.ListN.{length, take, drop, replicate, length-replicate, drop_of_length-le}
use Rattle.std.specs.Prelude.{Ok, Err}
use Rattle.answers.specs.declared.RLNCError.{RLNCError}
use Rattle.answers.specs.declared.RLNCError.TheVariants.{ReceivedAllPieces, NotAllPiecesReceivedYet, TooManyTaken}
use Rattle.galois.specs.FieldLaws.{FieldLaws}
use Rattle.linear.specs.All.{All, none, more, Bytes}
use Rattle.linear.specs.Pieces.{Truthful}
use Rattle.linear.specs.Blocks.{Block, Agrees, Unique}
use Rattle.linear.specs.Buffer.{flat, holding}
use Rattle.linear.proofs.All.{all_head, all_tail}
use Rattle.linear.proofs.Engine.{incomplete_other}
use Rattle.linear.proofs.RowRules.{row_rules_engine}
use Rattle.block.specs.Padding.{marker, Carries}
use Rattle.block.specs.Reading.{reading, answer_of, data_length}
use Rattle.block.proofs.Reading.{reads_data}
use Rattle.decoder.specs.declared.Decoder.{Decoder}
use Rattle.decoder.specs.declared.Taken.TheVariants.{Useful, NotUseful}
use Rattle.decoder.specs.Records.{k_of, f_of, rows_in, taken_by, taken_limit, bad_state}
use Rattle.decoder.specs.Entries.{decoder_of, new_refusal, NewDecoder, take_refusal, rows_after, after, taking, Decoded, completed, block_in, recover_refusal}
use Rattle.decoder.specs.Calls.{record_next, buffer_next}
use Rattle.decoder.proofs.Sound.{shown}
use Rattle.demands.specs.Calls.{buffer_after, buffer_from_new}
use Rattle.demands.specs.Demand3.{Closed}
use Rattle.demands.specs.History.{History, made, useful, not_useful}
use Rattle.demands.specs.Purpose.{heard, Another}
use Rattle.demands.proofs.History.{Kept, kept}
use Rattle.demands.proofs.Demand3.{closed_told, told, complete_rows, the_block, recovers, demand3}

-- ---- the order of the pieces is nothing to the blocks that agree with them

module _ {A : Type 0} {P : A → Type 0} where
  pub all_turned : (xs ys : List A) → All P xs → All P ys → All P (reverse_aux xs ys)
  all_turned [] ys h k = k
  all_turned (x ∷ xs) ys h k = all_turned xs (x ∷ ys) (all_tail h) (more (all_head h) k)

  all_back : (xs ys : List A) → All P (reverse_aux xs ys) → All P xs × All P ys
  all_back [] ys h = (none, h)
  all_back (x ∷ xs) ys h = let k = all_back xs (x ∷ ys) h in (more (all_head k.1) k.0, all_tail k.1)

module _ (𝓕 : FieldLaws) (k L : ℕ) (pieces block : List (List ℕ)) where
  pub unique_back : Unique 𝓕 k L (reverse pieces) block → Unique 𝓕 k L pieces block
  unfolding Unique Agrees
  unique_back u other o a = u other o (all_turned pieces [] a none)

  pub another_back : Another 𝓕 k L (reverse pieces) block → Another 𝓕 k L pieces block
  unfolding Agrees
  another_back x = record { other = x.other; is_block = x.is_block; agrees = (all_back pieces [] x.agrees).0; differs = x.differs }

-- ---- some pieces of the block were fed, the last first: the decoder took all of them, or it is complete

pub record Fed (𝓕 : FieldLaws) (k L : ℕ) (block fed : List (List ℕ)) (d : Decoder) (elements : List ℕ) : Type 0 where
  pub taken : List (List ℕ)
  pub history : History 𝓕 k L d elements taken
  pub agrees : Agrees 𝓕 k L taken block
  pub within : (other : List (List ℕ)) → Agrees 𝓕 k L fed other → Agrees 𝓕 k L taken other
  pub all : Closed d ⊎ (taken ≡ fed)

module _ {𝓕 : FieldLaws} {k L : ℕ} {block fed : List (List ℕ)} {d : Decoder} {elements : List ℕ} (s : Fed 𝓕 k L block fed d elements) where
  abbrev it : Kept 𝓕 k L d elements s.taken
  it = kept s.history

  good : bad_state d (length elements) ≡ false
  unfolding bad_state
  good = rw (shown d it.numbers, le-ltb (length elements) (k_of d * f_of d) it.room)

  rows_closed : eqb (rows_in d) (k_of d) ≡ true → Closed d
  rows_closed e = (closed_told (completed d)).1 (told s.history ∙ ap Ok e)

  rows_open : eqb (rows_in d) (k_of d) ≡ false → completed d ≡ Ok true → ⊥
  rows_open e c =
      let same : Ok true ≡ Ok false = sym c ∙ told s.history ∙ ap Ok e in
      let never : ◌≡◌ {A = ℕ} 0 1 = cc in
      omega arith

  -- an open decoder took all of them
  took_all : eqb (rows_in d) (k_of d) ≡ false → s.taken ≡ fed
  took_all e = go s.all
    where
      go : Closed d ⊎ (s.taken ≡ fed) → s.taken ≡ fed
      go (inl c) = absurd (rows_open e ((closed_told (completed d)).0 c))
      go (inr same) = same

  -- ---- one piece more

  module _ (p : List ℕ) (size : length p ≡ k + L) where
    -- a complete decoder refuses it with 9, one that took as many as it may with 23, and any other takes it
    complete_refuses : eqb (rows_in d) (k_of d) ≡ true → take_refusal d (length elements) (length p) ≡ Err ReceivedAllPieces
    unfolding take_refusal
    complete_refuses e = rw (good, e)

    whole : length p ≡ f_of d
    whole = omega (arith, it.same_k, it.same_l)

    full_refuses : eqb (rows_in d) (k_of d) ≡ false → length fed ≡ taken_limit → take_refusal d (length elements) (length p) ≡ Err TooManyTaken
    unfolding take_refusal
    full_refuses e n =
        let many : taken_limit ≤ taken_by d = omega (arith, it.taken, ap length (took_all e)) in
        rw (good, e, eq-eqb (length p) (f_of d) whole, le-leb taken_limit (taken_by d) many)

    takes : eqb (rows_in d) (k_of d) ≡ false → length fed < taken_limit → take_refusal d (length elements) (length p) ≡ Ok tt
    unfolding take_refusal
    takes e n =
        let less : taken_by d < taken_limit = omega (arith, it.taken, ap length (took_all e)) in
        rw (good, e, eq-eqb (length p) (f_of d) whole, lt-leb taken_limit (taken_by d) less)

    -- refused, it changes nothing
    unchanged : (P : Decoder → List ℕ → Type 0) (x : RLNCError) → take_refusal d (length elements) (length p) ≡ Err x → P d elements
        → P (record_next 𝓕 d elements p) (buffer_next 𝓕 d elements p)
    unfolding record_next buffer_next
    unchanged P x e h = rw e h

    pub past : length fed ≡ taken_limit → Fed 𝓕 k L block fed (record_next 𝓕 d elements p) (buffer_next 𝓕 d elements p)
    past n = go (eqb (rows_in d) (k_of d)) refl
      where
        go : (u : Bool) → eqb (rows_in d) (k_of d) ≡ u → Fed 𝓕 k L block fed (record_next 𝓕 d elements p) (buffer_next 𝓕 d elements p)
        go true e = unchanged (Fed 𝓕 k L block fed) ReceivedAllPieces (complete_refuses e) s
        go false e = unchanged (Fed 𝓕 k L block fed) TooManyTaken (full_refuses e n) s

    module _ (b : Bytes p) (t : Truthful 𝓕 k L block p) where
      still_closed : Closed d → Fed 𝓕 k L block (p ∷ fed) d elements
      unfolding Agrees
      still_closed c = record { taken = s.taken; history = s.history; agrees = s.agrees; within = λ other a. s.within other (all_tail a); all = inl c }

      grows : take_refusal d (length elements) (length p) ≡ Ok tt → s.taken ≡ fed
          → Fed 𝓕 k L block (p ∷ fed) (record_next 𝓕 d elements p) (buffer_next 𝓕 d elements p)
      unfolding record_next buffer_next taking Agrees
      grows e same =
          let x : record_next 𝓕 d elements p ≡ after 𝓕 d elements p = rw e in
          let y : buffer_next 𝓕 d elements p ≡ holding (k_of d) (f_of d) (rows_after 𝓕 d elements p) elements = rw e in
          rw (x, y)
          (record {
            taken = p ∷ s.taken;
            history = called (eqb (length (rows_after 𝓕 d elements p)) (rows_in d)) refl;
            agrees = more t s.agrees;
            within = λ other a. more (all_head a) (s.within other (all_tail a));
            all = inr (ap (λ (l : List (List ℕ)). p ∷ l) same);
          })
        where
          called : (u : Bool) → eqb (length (rows_after 𝓕 d elements p)) (rows_in d) ≡ u
              → History 𝓕 k L (after 𝓕 d elements p) (holding (k_of d) (f_of d) (rows_after 𝓕 d elements p) elements) (p ∷ s.taken)
          called true q =
              let c : Decoded 𝓕 d elements p (Ok (NotUseful (after 𝓕 d elements p))) (holding (k_of d) (f_of d) (rows_after 𝓕 d elements p) elements) = record { result = rw (e, q); left = rw e } in
              not_useful s.history b c
          called false q =
              let c : Decoded 𝓕 d elements p (Ok (Useful (after 𝓕 d elements p))) (holding (k_of d) (f_of d) (rows_after 𝓕 d elements p) elements) = record { result = rw (e, q); left = rw e } in
              useful s.history b c

      pub feed : length fed < taken_limit → Fed 𝓕 k L block (p ∷ fed) (record_next 𝓕 d elements p) (buffer_next 𝓕 d elements p)
      feed n = go (eqb (rows_in d) (k_of d)) refl
        where
          go : (u : Bool) → eqb (rows_in d) (k_of d) ≡ u → Fed 𝓕 k L block (p ∷ fed) (record_next 𝓕 d elements p) (buffer_next 𝓕 d elements p)
          go true e = unchanged (Fed 𝓕 k L block (p ∷ fed)) ReceivedAllPieces (complete_refuses e) (still_closed (rows_closed e))
          go false e = grows (takes e n) (took_all e)

  -- ---- recovery, given the room: the data where no other block is left, and else 10

  open_answer : eqb (rows_in d) (k_of d) ≡ false → (room : ℕ) → recover_refusal marker d elements room ≡ Err NotAllPiecesReceivedYet
  unfolding recover_refusal
  open_answer e room = rw (good, e)

  module _ (b : Block k L block) where
    closed_unique : Closed d → Unique 𝓕 k L fed block
    unfolding Unique
    closed_unique c other o a = (demand3 s.history marker block b s.agrees).closes.0 c other o (s.within other a)

    open_another : eqb (rows_in d) (k_of d) ≡ false → Another 𝓕 k L fed block
    open_another e =
        let long : 0 < L = subst (λ (n : ℕ). 0 < n) it.same_l (pos_of_ne-zero it.numbers.some_bytes) in
        let (other, o, a, n) = incomplete_other 𝓕 (row_rules_engine 𝓕 k L) it.held block b s.agrees long (λ l. rows_open e ((complete_rows s.history).1 l)) in
        subst (λ (l : List (List ℕ)). Another 𝓕 k L l block) (took_all e) (record { other = other; is_block = o; agrees = a; differs = n })

    pub recovery : {bytes : List ℕ} → Carries marker (flat block) bytes → (room : ℕ) → k * L ≤ room
        → ((recover_refusal marker d elements room ≡ Ok tt) × (take (data_length (reading marker (block_in d elements))) (block_in d elements) ≡ bytes) × Unique 𝓕 k L fed block)
        ⊎ ((recover_refusal marker d elements room ≡ Err NotAllPiecesReceivedYet) × Another 𝓕 k L fed block)
    unfolding answer_of data_length
    recovery {bytes} y room w = go (eqb (rows_in d) (k_of d)) refl
      where
        go : (u : Bool) → eqb (rows_in d) (k_of d) ≡ u
            → ((recover_refusal marker d elements room ≡ Ok tt) × (take (data_length (reading marker (block_in d elements))) (block_in d elements) ≡ bytes) × Unique 𝓕 k L fed block)
            ⊎ ((recover_refusal marker d elements room ≡ Err NotAllPiecesReceivedYet) × Another 𝓕 k L fed block)
        go true e =
            let c : completed d ≡ Ok true = told s.history ∙ ap Ok e in
            let (reads, front) = (reads_data marker (flat block) bytes).0 y in
            let same : block_in d elements ≡ flat block = the_block s.history block b s.agrees c in
            inl (
              recovers s.history block b s.agrees c marker room w ∙ ap answer_of reads,
              (λ i. take (data_length (reading marker (same i))) (same i)) ∙ ap (λ x. take (data_length x) (flat block)) reads ∙ front,
              closed_unique (rows_closed e),
            )
        go false e = inr (open_answer e room, open_another e)

-- ---- all the pieces, from the first on

unfoldable pub record_after : FieldLaws → Decoder → List ℕ → List (List ℕ) → Decoder
record_after 𝓕 d elements [] = d
record_after 𝓕 d elements (full ∷ later) = record_after 𝓕 (record_next 𝓕 d elements full) (buffer_next 𝓕 d elements full) later

module _ (𝓕 : FieldLaws) (k L : ℕ) (block : List (List ℕ)) where
  fresh : new_refusal L k (k * (k + L)) ≡ Ok tt → Fed 𝓕 k L block [] (decoder_of k L 0 0) (replicate (k * (k + L)) 0)
  unfolding Agrees
  fresh e =
      let size : length (replicate {A = ℕ} (k * (k + L)) 0) ≡ k * (k + L) = length-replicate (k * (k + L)) 0 in
      let ok : new_refusal L k (length (replicate {A = ℕ} (k * (k + L)) 0)) ≡ Ok tt = ap (new_refusal L k) size ∙ e in
      let nothing_behind : drop (k * (k + L)) (replicate {A = ℕ} (k * (k + L)) 0) ≡ [] = drop_of_length-le (replicate (k * (k + L)) 0) {i = k * (k + L)} (omega arith) in
      let new_one : NewDecoder L k (replicate (k * (k + L)) 0) (Ok (decoder_of k L 0 0)) (replicate (k * (k + L)) 0) =
      record { result = rw ok; left = rw (ok, nothing_behind, append-nil) } in
      record { taken = []; history = made new_one; agrees = none; within = λ other a. none; all = inr refl }

  -- with no piece there is nothing to recover
  pub nothing_yet : new_refusal L k (k * (k + L)) ≡ Ok tt → (room : ℕ)
      → recover_refusal marker (decoder_of k L 0 0) (replicate (k * (k + L)) 0) room ≡ Err NotAllPiecesReceivedYet
  nothing_yet e room = let s = fresh e in open_answer s (ne_eqb 0 k (λ z. (it s).numbers.some_pieces (sym z))) room

  -- n more are heard
  feeds : (n : ℕ) (ps fed : List (List ℕ)) (d : Decoder) (elements : List ℕ) → Fed 𝓕 k L block fed d elements → length fed + n ≡ taken_limit
      → All (λ p. length p ≡ k + L) ps → All Bytes ps → Agrees 𝓕 k L (take n ps) block
      → Fed 𝓕 k L block (reverse_aux (take n ps) fed) (record_after 𝓕 d elements ps) (buffer_after 𝓕 d elements ps)
  unfolding record_after buffer_after Agrees
  feeds zero [] fed d elements s e z b t = s
  feeds zero (p ∷ ps) fed d elements s e z b t =
      feeds zero ps fed (record_next 𝓕 d elements p) (buffer_next 𝓕 d elements p) (past s p (all_head z) (omega arith)) e (all_tail z) (all_tail b) t
  feeds (suc n) [] fed d elements s e z b t = s
  feeds (suc n) (p ∷ ps) fed d elements s e z b t =
      feeds n ps (p ∷ fed) (record_next 𝓕 d elements p) (buffer_next 𝓕 d elements p) (feed s p (all_head z) (all_head b) (all_head t) (omega arith)) (omega arith) (all_tail z) (all_tail b) (all_tail t)

  pub fed_from_new : new_refusal L k (k * (k + L)) ≡ Ok tt → (pieces : List (List ℕ)) → All (λ p. length p ≡ k + L) pieces → All Bytes pieces
      → Agrees 𝓕 k L (heard pieces) block
      → Fed 𝓕 k L block (reverse (heard pieces)) (record_after 𝓕 (decoder_of k L 0 0) (replicate (k * (k + L)) 0) pieces) (buffer_from_new 𝓕 k L pieces)
  unfolding buffer_from_new
  fed_from_new e pieces z b t = feeds taken_limit pieces [] (decoder_of k L 0 0) (replicate (k * (k + L)) 0) (fresh e) (omega arith) z b t
