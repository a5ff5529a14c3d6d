-- What the padding tells is the rule's own word, for any marker: the data where the block carries it, and else the way in which it breaks the rule.
-- A padded block carries its data.
-- Assumes nothing.
use mathlib.Core.Path.{◌≡◌, refl, sym, ap, ◌∙◌, subst}
use mathlib.Core.Logic.{◌≢◌, ◌↔◌}
use mathlib.Core.Bool.{Bool, true, false}
use mathlib.Core.List.{List, ◌∷◌, ◌++◌}
use Rattle.std.specs.Prelude.{Option, None, Some, Result, Ok, Err}
use Prim.Native.Nat.{ℕ, zero, suc, ◌+◌, ◌-◌, ◌<◌}
use native.Mathlib.Omega.{arith}
use lib.ListN.{length, get_or, take, drop, replicate, length-append}
use lib.Seq.{get_or-drop, get_or-append-add, get_or-append_seam, take-append_seam}
use Rattle.answers.specs.Number.{number_of}
use Rattle.answers.specs.declared.RLNCError.TheVariants.{InvalidDecodedDataFormat}
use Rattle.linear.specs.Choice.{pick, if_zero}
use Rattle.linear.specs.Rows.{all_zero}
use Rattle.linear.proofs.All.{zeros_entry}
use Rattle.block.specs.declared.BrokenPadding.{BrokenPadding}
use Rattle.block.specs.declared.BrokenPadding.TheVariants.{MarkerAbsent, MarkerFirst, TailNotZero}
use Rattle.block.specs.Padding.{filled, padded, LastMarker, Breaks, absent, first, tail, Carries}
use Rattle.block.specs.Reading.{last_marker, read_at, reading, answer_of}
use Rattle.block.proofs.LastMarker.{Found, nowhere, at, found, last_at, last_nowhere, zero_each, each_zero, some_nonzero}

-- ---- a case of the answer, and its reason

pub data Reason (M : ℕ) (block : List ℕ) : Result ℕ BrokenPadding → Type 0 where
  no_marker : ((i : ℕ) → i < length block → get_or block i 0 ≢ M) → Reason M block (Err MarkerAbsent)
  no_data : LastMarker M block 0 → Reason M block (Err MarkerFirst)
  no_zeros : (i j : ℕ) → LastMarker M block i → 0 < i → i < j → get_or block j 0 ≢ 0 → Reason M block (Err TailNotZero)
  carried : {n : ℕ} → LastMarker M block n → 0 < n → ((j : ℕ) → n < j → get_or block j 0 ≡ 0) → Reason M block (Ok n)

pub reason : (M : ℕ) (block : List ℕ) → Reason M block (reading M block)
unfolding reading read_at
reason M block = go (last_marker M block) (found M block)
  where
    behind : (i j : ℕ) → all_zero (drop (suc i) block) ≡ true → i < j → get_or block j 0 ≡ 0
    behind i j e h =
        let k : suc i + (j - suc i) ≡ j = omega arith in
        ap (λ (n : ℕ). get_or block n 0) (sym k) ∙ sym (get_or-drop (suc i) block (j - suc i) 0) ∙ zero_each (drop (suc i) block) e (j - suc i)

    tested : (i : ℕ) → LastMarker M block i → 0 < i → (t : Bool) → all_zero (drop (suc i) block) ≡ t → Reason M block (pick t (Ok i) (Err TailNotZero))
    tested i l p true e = carried l p (λ j h. behind i j e h)
    tested i l p false e =
        let (j, n) = some_nonzero (drop (suc i) block) e in
        no_zeros i (suc i + j) l p (omega arith) (λ z. n (get_or-drop (suc i) block j 0 ∙ z))

    placed : (i : ℕ) → LastMarker M block i → Reason M block (if_zero i (Err MarkerFirst) (pick (all_zero (drop (suc i) block)) (Ok i) (Err TailNotZero)))
    placed zero l = no_data l
    placed (suc i) l = tested (suc i) l (omega arith) (all_zero (drop (suc (suc i)) block)) refl

    go : (o : Option ℕ) → Found M block o → Reason M block (read_at block o)
    go None (nowhere n) = no_marker n
    go (Some i) (at l) = placed i l

module _ (M : ℕ) (block : List ℕ) where
  -- each reason is that of one answer
  told : {p : Result ℕ BrokenPadding} → Reason M block p → reading M block ≡ p
  unfolding reading read_at
  told (no_marker n) = ap (read_at block) (last_nowhere block n)
  told (no_data l) = ap (read_at block) (last_at l)
  told (no_zeros zero j l p h n) = absurd (omega arith)
  told (no_zeros (suc i) j l p h n) = ap (read_at block) (last_at l) ∙ go (all_zero (drop (suc (suc i)) block)) refl
    where
      go : (t : Bool) → all_zero (drop (suc (suc i)) block) ≡ t → pick t (Ok (suc i)) (Err TailNotZero) ≡ (Err TailNotZero)
      go true e =
          let k : suc (suc i) + (j - suc (suc i)) ≡ j = omega arith in
          absurd (n (ap (λ (m : ℕ). get_or block m 0) (sym k) ∙ sym (get_or-drop (suc (suc i)) block (j - suc (suc i)) 0)
          ∙ zero_each (drop (suc (suc i)) block) e (j - suc (suc i))))
      go false e = refl
  told (carried {n = zero} l p z) = absurd (omega arith)
  told (carried {n = suc n} l p z) =
      ap (read_at block) (last_at l)
      ∙ ap (λ (t : Bool). pick t (Ok (suc n)) (Err TailNotZero))
      (each_zero (drop (suc (suc n)) block) (λ j. get_or-drop (suc (suc n)) block j 0 ∙ z (suc (suc n) + j) (omega arith)))

  of_answer : {p : Result ℕ BrokenPadding} → reading M block ≡ p → Reason M block p
  of_answer e = subst (Reason M block) e (reason M block)

  -- ---- the three ways to break the rule

  pub reads_absent : (reading M block ≡ (Err MarkerAbsent)) ↔ ((i : ℕ) → i < length block → get_or block i 0 ≢ M)
  reads_absent = (λ e. go (of_answer e), λ n. told (no_marker n))
    where
      go : Reason M block (Err MarkerAbsent) → (i : ℕ) → i < length block → get_or block i 0 ≢ M
      go (no_marker n) = n

  pub reads_first : (reading M block ≡ (Err MarkerFirst)) ↔ LastMarker M block 0
  reads_first = (λ e. go (of_answer e), λ l. told (no_data l))
    where
      go : Reason M block (Err MarkerFirst) → LastMarker M block 0
      go (no_data l) = l

  pub reads_tail : (reading M block ≡ (Err TailNotZero)) ↔ ((i : ℕ) × (j : ℕ) × LastMarker M block i × (0 < i) × (i < j) × (get_or block j 0 ≢ 0))
  reads_tail = (λ e. go (of_answer e), λ t. told (no_zeros t.0 t.1 t.2 t.3 t.4 t.5))
    where
      go : Reason M block (Err TailNotZero) → (i : ℕ) × (j : ℕ) × LastMarker M block i × (0 < i) × (i < j) × (get_or block j 0 ≢ 0)
      go (no_zeros i j l p h n) = (i, j, l, p, h, n)

  pub reads_broken : Breaks M block ↔ (answer_of (reading M block) ≡ Err InvalidDecodedDataFormat)
  unfolding answer_of
  reads_broken = (into, λ e. back (reason M block) e)
    where
      into : Breaks M block → answer_of (reading M block) ≡ Err InvalidDecodedDataFormat
      into (absent n) = ap answer_of (told (no_marker n))
      into (first l) = ap answer_of (told (no_data l))
      into (tail zero j l h n) = ap answer_of (told (no_data l))
      into (tail (suc i) j l h n) = ap answer_of (told (no_zeros (suc i) j l (omega arith) h n))

      back : {p : Result ℕ BrokenPadding} → Reason M block p → answer_of p ≡ Err InvalidDecodedDataFormat → Breaks M block
      back (no_marker n) e = absent n
      back (no_data l) e = first l
      back (no_zeros i j l p h n) e = tail i j l h n
      back (carried l p z) e = let never : ◌≡◌ {A = ℕ} 0 11 = ap number_of e in absurd (omega arith)

  -- ---- the data

  pub reads_data : (bytes : List ℕ) → Carries M block bytes ↔ ((reading M block ≡ Ok (length bytes)) × (take (length bytes) block ≡ bytes))
  reads_data bytes = (λ c. (told (carried c.marked c.nonempty c.zeros), c.front), λ h. go (of_answer h.0) h.1)
    where
      go : Reason M block (Ok (length bytes)) → take (length bytes) block ≡ bytes → Carries M block bytes
      go (carried l p z) f = record { marked = l; nonempty = p; zeros = z; front = f }

-- ---- there and back

module _ (M : ℕ) (d : M ≢ 0) (bytes : List ℕ) (n : 0 < length bytes) where
  pub filled_carries : (size : ℕ) → Carries M (filled M size bytes) bytes
  unfolding filled
  filled_carries size = record {
    marked = record {
      inside = simp length-append (omega arith);
      here = get_or-append_seam bytes M (replicate (size - (length bytes + 1)) 0) 0;
      last = λ j h k e. d (sym e ∙ behind (size - (length bytes + 1)) j h);
    };
    nonempty = n;
    zeros = behind (size - (length bytes + 1));
    front = take-append_seam bytes (M ∷ replicate (size - (length bytes + 1)) 0);
  }
    where
      behind : (r j : ℕ) → length bytes < j → get_or (bytes ++ (M ∷ replicate r 0)) j 0 ≡ 0
      behind r j h =
          let k : length bytes + suc (j - suc (length bytes)) ≡ j = omega arith in
          ap (λ (m : ℕ). get_or (bytes ++ (M ∷ replicate r 0)) m 0) (sym k)
          ∙ get_or-append-add bytes (M ∷ replicate r 0) (suc (j - suc (length bytes))) 0 ∙ zeros_entry r (j - suc (length bytes))

  pub round_trip : (k : ℕ) → Carries M (padded M k bytes) bytes
  unfolding padded
  round_trip k = filled_carries _

  pub reads_back : (k : ℕ) → (reading M (padded M k bytes) ≡ Ok (length bytes)) × (take (length bytes) (padded M k bytes) ≡ bytes)
  reads_back k = (reads_data M (padded M k bytes) bytes).0 (round_trip k)
