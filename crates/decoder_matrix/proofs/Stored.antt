-- One row put into a buffer, or two rows: the rows are those at entry with that row set, or those two.
-- Assumes nothing.
use mathlib.Core.Path.{◌≡◌, refl, sym, ap, ◌∙◌, subst}
use mathlib.Core.Logic.{◌≢◌}
use mathlib.Core.List.{List, [], ◌++◌, append_assoc}
use Prim.Native.Nat.{ℕ, min, max, ◌+◌, ◌-◌, ◌*◌, ◌≤◌, ◌<◌}
use native.Mathlib.Nat.{add-sub_cancel_left}
use native.Mathlib.Decide.{dec_lt}
use native.Mathlib.Omega.{arith}
use lib.ListN.{length, get_or, take, drop, set}
use lib.Seq.{get_or-set_same, set-set, set_comm, set-get_or, drop-drop, paste}
use Rattle.linear.specs.Rows.{entry, swap_rows}
use Rattle.linear.specs.Buffer.{rows_of, row_at, put_row, Ruled}
use Rattle.linear.proofs.Buffer.{entry_at, store_row, length_put, length_part, row_end, row_at_lem, put_row_lem}

module _ (f n : ℕ) {old now : List ℕ} (rows : List (List ℕ)) (j t : ℕ) (row : List ℕ) (h : j < n) (k : t < f) (even : length rows ≡ n)
    (u : Ruled f n old now (set rows j row)) where
  -- the byte read from the row
  pub read_byte : get_or now (j * f + t) 0 ≡ get_or row t 0
  unfolding entry
  read_byte =
      sym (entry_at f n j t now h k) ∙ ap (λ (l : List (List ℕ)). get_or (get_or l j []) t 0) u.rows
      ∙ ap (λ (r : List ℕ). get_or r t 0) (get_or-set_same rows j row [] (omega arith))

  -- a byte stored into the row
  pub stored : (v : ℕ) → n * f ≤ length now → Ruled f n old (set now (j * f + t) v) (set rows j (set row t v))
  stored v w =
      let s = store_row f n now j t v h k w in
      record {
        rows =
            s.rows ∙ ap (λ (l : List (List ℕ)). set l j (set (get_or l j []) t v)) u.rows
            ∙ ap (λ (r : List ℕ). set (set rows j row) j (set r t v)) (get_or-set_same rows j row [] (omega arith)) ∙ set-set rows j row (set row t v);
        rest = s.rest ∙ u.rest;
      }

module _ (f n : ℕ) (old : List ℕ) (w : n * f ≤ length old) where
  abbrev R : List (List ℕ)
  R = rows_of f n old

  size : (i : ℕ) → i < n → length (row_at f i old) ≡ f
  size i h = length_part (i * f) f old (omega (arith, row_end f h))

  -- row `from` put over row `to`
  pub moved : (from to : ℕ) {new : List ℕ} → from < n → to < n → new ≡ paste old (to * f) (drop (from * f) old) (from * f + f - from * f)
      → Ruled f n old new (set R to (get_or R from []))
  moved from to {new} h k e =
      let u : Ruled f n old new (set R to (row_at f from old)) =
      put_row_lem f n old to (row_at f from old) k w (size from h)
      (e ∙ ap (paste old (to * f) (drop (from * f) old)) (add-sub_cancel_left (from * f) f)
      ∙ append_assoc (take (to * f) old) (row_at f from old) (drop (to * f + f) old)
      ∙ ap (λ (l : List ℕ). take (to * f) old ++ (row_at f from old ++ l)) (sym (drop-drop f (to * f) old))) in
      record { rows = u.rows ∙ ap (set R to) (sym (row_at_lem f n from old h)); rest = u.rest }

  -- rows a and b, each put in the other's place
  exchanged : (a b : ℕ) {new : List ℕ} → a < n → b < n → new ≡ put_row f b (row_at f a old) (put_row f a (row_at f b old) old)
      → Ruled f n old new (swap_rows R a b)
  unfolding swap_rows
  exchanged a b {new} h k e =
      let mid : List ℕ = put_row f a (row_at f b old) old in
      let long : length mid ≡ length old = length_put (a * f) f (row_at f b old) old (omega (arith, row_end f h)) (size b k) in
      let u : Ruled f n old mid (set R a (row_at f b old)) = put_row_lem f n old a (row_at f b old) h w (size b k) refl in
      let v : Ruled f n mid new (set (rows_of f n mid) b (row_at f a old)) = put_row_lem f n mid b (row_at f a old) k (omega arith) (size a h) e in
      record {
        rows =
            v.rows ∙ ap (λ (l : List (List ℕ)). set l b (row_at f a old)) u.rows
            ∙ (λ i. set (set R a (sym (row_at_lem f n b old k) i)) b (sym (row_at_lem f n a old h) i));
        rest = v.rest ∙ u.rest;
      }

  -- the same, whichever of the two comes first
  pub swapped : (i j : ℕ) {new : List ℕ} → i < n → j < n → i ≢ j
      → new ≡ put_row f (max i j) (row_at f (min i j) old) (put_row f (min i j) (row_at f (max i j) old) old) → Ruled f n old new (swap_rows R i j)
  unfolding swap_rows
  swapped i j {new} h k m e = go (dec_lt i j)
    where
      go : Dec (i < j) → Ruled f n old new (swap_rows R i j)
      go (yes l) = let a : min i j ≡ i = omega arith in let b : max i j ≡ j = omega arith in exchanged i j h k (rw (a, b) at e)
      go (no l) =
          let a : min i j ≡ j = omega arith in
          let b : max i j ≡ i = omega arith in
          subst (Ruled f n old new) (sym (set_comm R i j (get_or R j []) (get_or R i []) m)) (exchanged j i k h (rw (a, b) at e))

-- a row exchanged with itself
pub swap_same : (rows : List (List ℕ)) (i j : ℕ) → i ≡ j → swap_rows rows i j ≡ rows
unfolding swap_rows
swap_same rows i j e =
    ap (λ (x : ℕ). set (set rows i (get_or rows x [])) x (get_or rows i [])) (sym e) ∙ set-set rows i (get_or rows i []) (get_or rows i []) ∙ set-get_or rows i []
