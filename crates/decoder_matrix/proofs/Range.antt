-- The rows from one up to another are cleared one by one, and no other row changes, so that the pivot row is what it was at each turn.
-- Assumes nothing.
use mathlib.Core.Path.{◌≡◌, refl, sym, ap, ◌∙◌, subst}
use mathlib.Core.Logic.{◌⊎◌, ⊎_elim}
use mathlib.Core.List.{List, [], ◌∷◌, ◌++◌, map, append-nil}
use Prim.Native.Nat.{ℕ, zero, suc, ◌+◌, ◌-◌, ◌*◌, ◌≤◌, ◌<◌, zero-le}
use native.Mathlib.Nat.{le_of_suc-le-suc, not-suc-le-zero, le_of_eq, le_of_lt}
use native.Mathlib.Numerals.{add-one}
use native.Mathlib.Omega.{arith}
use lib.ListN.{length, get_or, take, drop, set, drop_of_length-le, length-map}
use lib.Seq.{take_all, drop-cons, length-take-le, get_or_at, set_at, get_or-take, get_or-drop}
use Rattle.galois.specs.FieldLaws.{FieldLaws}
use Rattle.galois.proofs.Field.{zero_mul}
use Rattle.linear.specs.Rows.{entry, add_multiple, scale_row, clear_by, clear_below, clear_above}
use Rattle.linear.specs.Buffer.{rows_of, row_at, put_row, Ruled}
use Rattle.linear.proofs.Buffer.{length_rows_of, row_at_lem, length_row, entry_at, put_row_lem}
use Rattle.rows.proofs.Turned.{Turned, starts, ends, finds, keeps, turns, skips}
use Rattle.linear.proofs.Sums.{length_add}
use Rattle.rows.proofs.RowLaws.{added_zero}
use Rattle.decoder_matrix.specs.Steps.{clear_range}

-- ---- the rows from a up to b mapped

module _ (g : List ℕ → List ℕ) where
  abbrev mapped : ℕ → ℕ → List (List ℕ) → List (List ℕ)
  mapped a b rows = take a rows ++ (map g (drop a (take b rows)) ++ drop b rows)

  length_mapped : (a b : ℕ) (rows : List (List ℕ)) → a ≤ b → length (mapped a b rows) ≡ length rows
  length_mapped zero zero rows h = refl
  length_mapped zero (suc b) [] h = refl
  length_mapped zero (suc b) (x ∷ rows) h = ap suc (length_mapped zero b rows zero-le)
  length_mapped (suc a) zero rows h = absurd (not-suc-le-zero h)
  length_mapped (suc a) (suc b) [] h = refl
  length_mapped (suc a) (suc b) (x ∷ rows) h = ap suc (length_mapped a b rows (le_of_suc-le-suc h))

  take_mapped : (a b : ℕ) (rows : List (List ℕ)) → a ≤ b → take a (mapped a b rows) ≡ take a rows
  take_mapped zero b rows h = refl
  take_mapped (suc a) zero rows h = absurd (not-suc-le-zero h)
  take_mapped (suc a) (suc b) [] h = refl
  take_mapped (suc a) (suc b) (x ∷ rows) h = ap (λ (l : List (List ℕ)). x ∷ l) (take_mapped a b rows (le_of_suc-le-suc h))

  drop_mapped : (a b : ℕ) (rows : List (List ℕ)) → a ≤ b → drop b (mapped a b rows) ≡ drop b rows
  drop_mapped zero zero rows h = refl
  drop_mapped zero (suc b) [] h = refl
  drop_mapped zero (suc b) (x ∷ rows) h = drop_mapped zero b rows zero-le
  drop_mapped (suc a) zero rows h = absurd (not-suc-le-zero h)
  drop_mapped (suc a) (suc b) [] h = refl
  drop_mapped (suc a) (suc b) (x ∷ rows) h = drop_mapped a b rows (le_of_suc-le-suc h)

  get_or_mapped : (a b j : ℕ) (rows : List (List ℕ)) → a ≤ j → j < b → b ≤ length rows → get_or (mapped a b rows) j [] ≡ g (get_or rows j [])
  get_or_mapped a zero j rows h k w = absurd (not-suc-le-zero k)
  get_or_mapped a (suc b) j [] h k w = absurd (not-suc-le-zero w)
  get_or_mapped zero (suc b) zero (x ∷ rows) h k w = refl
  get_or_mapped zero (suc b) (suc j) (x ∷ rows) h k w = get_or_mapped zero b j rows zero-le (le_of_suc-le-suc k) (le_of_suc-le-suc w)
  get_or_mapped (suc a) (suc b) zero (x ∷ rows) h k w = absurd (not-suc-le-zero h)
  get_or_mapped (suc a) (suc b) (suc j) (x ∷ rows) h k w = get_or_mapped a b j rows (le_of_suc-le-suc h) (le_of_suc-le-suc k) (le_of_suc-le-suc w)

  get_or_outside : (a b j : ℕ) (rows : List (List ℕ)) → a ≤ b → (j < a) ⊎ (b ≤ j) → get_or (mapped a b rows) j [] ≡ get_or rows j []
  get_or_outside a b j rows h =
      ⊎_elim
      (λ l. sym (get_or-take a (mapped a b rows) j [] l) ∙ ap (λ (x : List (List ℕ)). get_or x j []) (take_mapped a b rows h) ∙ get_or-take a rows j [] l)
      (λ l.
      let e : b + (j - b) ≡ j = omega arith in
      ap (λ (i : ℕ). get_or (mapped a b rows) i []) (sym e) ∙ sym (get_or-drop b (mapped a b rows) (j - b) [])
      ∙ ap (λ (x : List (List ℕ)). get_or x (j - b) []) (drop_mapped a b rows h) ∙ get_or-drop b rows (j - b) [] ∙ ap (λ (i : ℕ). get_or rows i []) e)

-- ---- rules 1 and 2 by a range

module _ (𝓕 : FieldLaws) where
  -- a row whose entry is 0 already stays
  cleared_zero : (i : ℕ) (pivot r : List ℕ) → get_or r i 0 ≡ 0 → clear_by 𝓕 i pivot r ≡ r
  unfolding clear_by
  cleared_zero i pivot r z =
      ap (λ (q : ℕ). add_multiple 𝓕 q pivot r) (ap (λ (x : ℕ). 𝓕.mul x (𝓕.inv (get_or pivot i 0))) z ∙ zero_mul 𝓕 (𝓕.inv (get_or pivot i 0)))
      ∙ added_zero 𝓕 pivot r

  -- all rows below i
  pub range_below : (i n : ℕ) (rows : List (List ℕ)) → length rows ≡ n → clear_range 𝓕 (i + 1) n i rows ≡ clear_below 𝓕 i rows
  unfolding clear_range clear_below
  range_below i n rows e =
      let g : List ℕ → List ℕ = clear_by 𝓕 i (get_or rows i []) in
      (λ k. take (add-one i k) rows ++ (map g (drop (add-one i k) (take_all n rows (le_of_eq e) k)) ++ drop_of_length-le rows (le_of_eq e) k))
      ∙ ap (λ (l : List (List ℕ)). take (suc i) rows ++ l) (append-nil (map g (drop (suc i) rows)))

  -- all rows above i: row i stays, and can be put behind them
  module _ (i : ℕ) (rows : List (List ℕ)) (h : i < length rows) where
    abbrev above : List (List ℕ)
    above = map (clear_by 𝓕 i (get_or rows i [])) (take i rows)

    split : clear_range 𝓕 0 i i rows ≡ above ++ (get_or rows i [] ∷ drop (suc i) rows)
    unfolding clear_range
    split = ap (λ (l : List (List ℕ)). above ++ l) (drop-cons rows i [] h)

    long : length above ≡ i
    long = length-map (take i rows) (clear_by 𝓕 i (get_or rows i [])) ∙ length-take-le i rows (le_of_lt h)

    pub range_keeps : get_or (clear_range 𝓕 0 i i rows) i [] ≡ get_or rows i []
    range_keeps = ap (λ (l : List (List ℕ)). get_or l i []) split ∙ get_or_at above (get_or rows i []) (drop (suc i) rows) [] i long

    pub range_above : {row : List ℕ} → row ≡ scale_row 𝓕 (𝓕.inv (entry rows i i)) (get_or rows i []) → set (clear_range 𝓕 0 i i rows) i row ≡ clear_above 𝓕 i rows
    unfolding clear_above
    range_above {row} e =
        ap (λ (l : List (List ℕ)). set l i row) split ∙ set_at above (get_or rows i []) (drop (suc i) rows) row i long
        ∙ ap (λ (r : List ℕ). above ++ (r ∷ drop (suc i) rows)) e

-- ---- the loop that clears a range

pub record Rowed (f n j : ℕ) (new : List (List ℕ)) (old now : List ℕ) : Type 0 where
  pub turned : Turned j new (rows_of f n old) (rows_of f n now)
  pub rest : drop (n * f) now ≡ drop (n * f) old

module _ (𝓕 : FieldLaws) (f n from to i : ℕ) (old : List ℕ) (order : from ≤ to) (top : to ≤ n) where
  abbrev rows₀ : List (List ℕ)
  rows₀ = rows_of f n old

  abbrev new : List (List ℕ)
  new = clear_range 𝓕 from to i rows₀

  abbrev pivot : List ℕ
  pivot = get_or rows₀ i []

  pub range_starts : Rowed f n from new old old
  unfolding clear_range
  range_starts = record {
    turned =
        starts from (rw length_rows_of (omega arith)) (length_mapped (clear_by 𝓕 i pivot) from to rows₀ order) (take_mapped (clear_by 𝓕 i pivot) from to rows₀ order);
    rest = refl;
  }

  pub range_ends : {now : List ℕ} → Rowed f n to new old now → Ruled f n old now new
  unfolding clear_range
  range_ends t = record { rows = ends t.turned (drop_mapped (clear_by 𝓕 i pivot) from to rows₀ order); rest = t.rest }

  module _ (j : ℕ) {now : List ℕ} (lo : from ≤ j) (hi : j < to) (t : Rowed f n j new old now) where
    below : j < length rows₀
    below = rw length_rows_of (omega arith)

    found : get_or (rows_of f n now) j [] ≡ get_or rows₀ j []
    found = finds [] t.turned below

    wanted : get_or new j [] ≡ clear_by 𝓕 i pivot (get_or rows₀ j [])
    unfolding clear_range
    wanted = get_or_mapped (clear_by 𝓕 i pivot) from to j rows₀ lo hi (rw length_rows_of top)

    -- the byte that the turn reads
    byte : i < f → get_or now (j * f + i) 0 ≡ get_or (get_or rows₀ j []) i 0
    unfolding entry
    byte h = sym (entry_at f n j i now (omega arith) h) ∙ ap (λ (r : List ℕ). get_or r i 0) found

    pub turn_skips : i < f → get_or now (j * f + i) 0 ≡ 0 → Rowed f n (j + 1) new old now
    turn_skips h z = record {
      turned = skips [] t.turned below (sym (wanted ∙ cleared_zero 𝓕 i pivot (get_or rows₀ j []) (sym (byte h) ∙ z)));
      rest = t.rest;
    }

    pub turn_adds : {q v : ℕ} {next : List ℕ} → i < n → i < f → (i < from) ⊎ (to ≤ i) → n * f ≤ length now → v ≡ 𝓕.inv (entry rows₀ i i)
        → q ≡ 𝓕.mul (get_or now (j * f + i) 0) v → next ≡ put_row f j (add_multiple 𝓕 q (row_at f i now) (row_at f j now)) now
        → Rowed f n (j + 1) new old next
    unfolding clear_range clear_by entry
    turn_adds {q} {v} {next} hn h out w ev eq en =
        let here : row_at f j now ≡ get_or rows₀ j [] = sym (row_at_lem f n j now (omega arith)) ∙ found in
        let kept : row_at f i now ≡ pivot =
        sym (row_at_lem f n i now hn) ∙ keeps i [] t.turned (get_or_outside (clear_by 𝓕 i pivot) from to i rows₀ order out) in
        let row : List ℕ = add_multiple 𝓕 q (row_at f i now) (row_at f j now) in
        let size : length row ≡ f = length_add 𝓕 q (row_at f i now) (row_at f j now) ∙ ap length (sym (row_at_lem f n j now (omega arith))) ∙ length_row f n j now (omega arith) w in
        let is : row ≡ get_or new j [] =
        (λ x. add_multiple 𝓕 ((eq ∙ (λ y. 𝓕.mul (byte h y) (ev y))) x) (kept x) (here x)) ∙ sym wanted in
        let u : Ruled f n now next (set (rows_of f n now) j row) = put_row_lem f n now j row (omega arith) w size en in
        record {
          turned = subst (Turned (j + 1) new rows₀) (sym u.rows) (turns [] t.turned below is);
          rest = u.rest ∙ t.rest;
        }
