-- Each step of the row rules makes sums and multiples of rows, and each step can be undone by another sum or multiple: so a property that sums
-- and multiples keep goes from the rows to the result, and back, up to the rows that are dropped.
-- Assumes nothing.
use mathlib.Core.Path.{◌≡◌}
use mathlib.Core.Logic.{◌≢◌}
use mathlib.Core.List.{List, [], ◌∷◌}
use Prim.Native.Nat.{ℕ, zero, suc, ◌<◌}
use native.Mathlib.Decide.{ℕ_discrete, dec_lt}
use native.Mathlib.Omega.{arith}
use lib.ListN.{length, get_or}
use Rattle.galois.specs.FieldLaws.{FieldLaws}
use Rattle.linear.specs.All.{All, none, more, Bytes}
use Rattle.linear.specs.Rows.{entry, swap_rows, add_multiple, scale_row, clear_by, clear_below, forward, clear_above, backward, drop_empty, reduce}
use Rattle.linear.specs.Engine.{Subspace, Empty}
use Rattle.linear.proofs.All.{Every, all_head, all_tail, all_every, every_all, bytes_at}
use Rattle.linear.proofs.Sums.{add_twice, add_byte, scale_entry, scale_back}
use Rattle.linear.proofs.Pivot.{nonzero_row}
use Rattle.linear.proofs.Drop.{drop_empty_cases}
use Rattle.linear.proofs.Steps.{swap_row, swap_first, swap_second, swap_other, below_kept, below_cleared, above_kept, above_cleared, above_scaled, forward_at_cases, backward_at_cases}

module _ (𝓕 : FieldLaws) {P : List ℕ → Type 0} (𝓢 : Subspace 𝓕 P) where
  clear_in : (c : ℕ) (p r : List ℕ) → P p → P r → P (clear_by 𝓕 c p r)
  unfolding clear_by
  clear_in c p r hp hr = 𝓢.add _ p r hp hr

  clear_out : (c : ℕ) (p r : List ℕ) → P p → P (clear_by 𝓕 c p r) → P r
  unfolding clear_by
  clear_out c p r hp hr = rw (add_twice 𝓕) at (𝓢.add (𝓕.mul (get_or r c 0) (𝓕.inv (get_or p c 0))) p _ hp hr)

  pub swap_in : (rows : List (List ℕ)) (i j : ℕ) → i < length rows → j < length rows → Every P [] rows → Every P [] (swap_rows rows i j)
  swap_in rows i j hi hj h r = swap_row rows i j P hi hj (h i) (h j) r (h r)

  swap_out : (rows : List (List ℕ)) (i j : ℕ) → i < length rows → j < length rows → Every P [] (swap_rows rows i j) → Every P [] rows
  swap_out rows i j hi hj h r = go (ℕ_discrete r i) (ℕ_discrete r j)
    where
      go : Dec (r ≡ i) → Dec (r ≡ j) → P (get_or rows r [])
      go (yes e) d = rw e (rw (swap_second rows i j hj) at (h j))
      go (no n) (yes e) = rw e (rw (swap_first rows i j hi hj) at (h i))
      go (no n) (no m) = rw (swap_other rows i j r n m) at (h r)

  below_in : (i : ℕ) (rows : List (List ℕ)) → Every P [] rows → Every P [] (clear_below 𝓕 i rows)
  below_in i rows h r = go (dec_lt i r)
    where
      go : Dec (i < r) → P (get_or (clear_below 𝓕 i rows) r [])
      go (yes g) = rw (below_cleared 𝓕 i rows r g) (clear_in i (get_or rows i []) (get_or rows r []) (h i) (h r))
      go (no g) = rw (below_kept 𝓕 i rows r (omega arith)) (h r)

  below_out : (i : ℕ) (rows : List (List ℕ)) → Every P [] (clear_below 𝓕 i rows) → Every P [] rows
  below_out i rows h r = go (dec_lt i r)
    where
      pivot : P (get_or rows i [])
      pivot = rw (below_kept 𝓕 i rows i (omega arith)) at (h i)

      go : Dec (i < r) → P (get_or rows r [])
      go (yes g) = clear_out i (get_or rows i []) (get_or rows r []) pivot (rw (below_cleared 𝓕 i rows r g) at (h r))
      go (no g) = rw (below_kept 𝓕 i rows r (omega arith)) at (h r)

  pub forward_in : (n : ℕ) (rows : List (List ℕ)) → Every P [] rows → Every P [] (forward 𝓕 n rows)
  unfolding forward
  forward_in zero rows h = h
  forward_in (suc n) rows h =
      let x : List (List ℕ) = forward 𝓕 n rows in
      let ih : Every P [] x = forward_in n rows h in
      forward_at_cases 𝓕 (λ y. Every P [] y) n x (λ z. ih)
      (λ j nj hj e. below_in n (swap_rows x n j) (swap_in x n j (omega arith) hj ih))

  forward_out : (n : ℕ) (rows : List (List ℕ)) → Every P [] (forward 𝓕 n rows) → Every P [] rows
  unfolding forward
  forward_out zero rows h = h
  forward_out (suc n) rows h =
      let x : List (List ℕ) = forward 𝓕 n rows in
      forward_out n rows
      (forward_at_cases 𝓕 (λ y. Every P [] y → Every P [] x) n x (λ z h. h)
      (λ j nj hj e h. swap_out x n j (omega arith) hj (below_out n (swap_rows x n j) h)) h)

  pub above_in : (i : ℕ) (rows : List (List ℕ)) → i < length rows → Every P [] rows → Every P [] (clear_above 𝓕 i rows)
  above_in i rows l h r = go (dec_lt i r) (ℕ_discrete r i)
    where
      go : Dec (i < r) → Dec (r ≡ i) → P (get_or (clear_above 𝓕 i rows) r [])
      go (yes g) d = rw (above_kept 𝓕 i rows r l g) (h r)
      go (no g) (yes e) = rw (e, above_scaled 𝓕 i rows l) (𝓢.scale _ (get_or rows i []) (h i))
      go (no g) (no e) = rw (above_cleared 𝓕 i rows r l (omega arith)) (clear_in i (get_or rows i []) (get_or rows r []) (h i) (h r))

  backward_in : (n : ℕ) (rows : List (List ℕ)) → Every P [] rows → Every P [] (backward 𝓕 n rows)
  unfolding backward
  backward_in zero rows h = h
  backward_in (suc i) rows h =
      backward_at_cases 𝓕 (λ x. Every P [] (backward 𝓕 i x)) i rows
      (λ e. backward_in i rows h) (λ n. backward_in i (clear_above 𝓕 i rows) (above_in i rows (nonzero_row rows i i n) h))

  drop_empty_in : (k : ℕ) (rows : List (List ℕ)) → All P rows → All P (drop_empty k rows)
  unfolding drop_empty
  drop_empty_in k [] h = none
  drop_empty_in k (r ∷ rs) h =
      drop_empty_cases (All P) k r rs (λ e. drop_empty_in k rs (all_tail h)) (λ n. more (all_head h) (drop_empty_in k rs (all_tail h)))

  pub reduce_in : (k : ℕ) (rows : List (List ℕ)) → All P rows → All P (reduce 𝓕 k rows)
  unfolding reduce
  reduce_in k rows h =
      let n : ℕ = length rows in
      let x : List (List ℕ) = forward 𝓕 n rows in
      drop_empty_in k (backward 𝓕 n x)
      (every_all P [] (backward 𝓕 n x) (backward_in n x (forward_in n rows (all_every [] rows 𝓢.nil h))))

module _ (𝓕 : FieldLaws) where
  pub bytes_subspace : Subspace 𝓕 Bytes
  bytes_subspace = record {
    nil = none;
    add = λ q src dst hs hd. every_all (λ x. x < 256) 0 (add_multiple 𝓕 q src dst) (λ c. add_byte 𝓕 q src dst c (bytes_at dst hd c));
    scale = λ q r h. every_all (λ x. x < 256) 0 (scale_row 𝓕 q r) (λ c. rw (scale_entry 𝓕 q r c) (𝓕.mul_lt q (get_or r c 0)));
  }

  -- ---- the row rules can be undone

  module _ {P : List ℕ → Type 0} (𝓢 : Subspace 𝓕 P) where
    above_out : (i : ℕ) (rows : List (List ℕ)) → Every Bytes [] rows → entry rows i i ≢ 0 → Every P [] (clear_above 𝓕 i rows) → Every P [] rows
    unfolding entry
    above_out i rows b n h r = go (dec_lt i r) (ℕ_discrete r i)
      where
        l : i < length rows
        l = nonzero_row rows i i n

        pivot : P (get_or rows i [])
        pivot =
            rw (scale_back 𝓕 (entry rows i i) (get_or rows i []) (omega arith) (bytes_at (get_or rows i []) (b i) i) (b i)) at
            (𝓢.scale (entry rows i i) (scale_row 𝓕 (𝓕.inv (entry rows i i)) (get_or rows i [])) (rw (above_scaled 𝓕 i rows l) at (h i)))

        go : Dec (i < r) → Dec (r ≡ i) → P (get_or rows r [])
        go (yes g) d = rw (above_kept 𝓕 i rows r l g) at (h r)
        go (no g) (yes e) = rw e pivot
        go (no g) (no e) = clear_out 𝓕 𝓢 i (get_or rows i []) (get_or rows r []) pivot (rw (above_cleared 𝓕 i rows r l (omega arith)) at (h r))

    backward_out : (n : ℕ) (rows : List (List ℕ)) → Every Bytes [] rows → Every P [] (backward 𝓕 n rows) → Every P [] rows
    unfolding backward
    backward_out zero rows b = λ h. h
    backward_out (suc i) rows b =
        backward_at_cases 𝓕 (λ x. Every P [] (backward 𝓕 i x) → Every P [] rows) i rows
        (λ e h. backward_out i rows b h)
        (λ n h. above_out i rows b n
        (backward_out i (clear_above 𝓕 i rows) (above_in 𝓕 bytes_subspace i rows (nonzero_row rows i i n) b) h))

    drop_empty_out : (S : List ℕ → Type 0) (k : ℕ) → ((r : List ℕ) → S r → Empty k r → P r) → (rows : List (List ℕ)) → All S rows
        → All P (drop_empty k rows) → All P rows
    unfolding drop_empty
    drop_empty_out S k f [] s = λ h. none
    drop_empty_out S k f (r ∷ rs) s =
        drop_empty_cases (λ x. All P x → All P (r ∷ rs)) k r rs
        (λ e h. more (f r (all_head s) e) (drop_empty_out S k f rs (all_tail s) h))
        (λ n h. more (all_head h) (drop_empty_out S k f rs (all_tail s) (all_tail h)))

    -- S is what is known of the rows that are dropped
    pub reduce_out : {S : List ℕ → Type 0} → Subspace 𝓕 S → (k : ℕ) → ((r : List ℕ) → S r → Empty k r → P r)
        → (rows : List (List ℕ)) → All Bytes rows → All S rows → All P (reduce 𝓕 k rows) → All P rows
    unfolding reduce
    reduce_out {S} 𝓣 k f rows b s h =
        let n : ℕ = length rows in
        let x : List (List ℕ) = forward 𝓕 n rows in
        let y : List (List ℕ) = backward 𝓕 n x in
        let sy : Every S [] y = backward_in 𝓕 𝓣 n x (forward_in 𝓕 𝓣 n rows (all_every [] rows 𝓣.nil s)) in
        let bx : Every Bytes [] x = forward_in 𝓕 bytes_subspace n rows (all_every [] rows bytes_subspace.nil b) in
        every_all P [] rows
        (forward_out 𝓕 𝓢 n rows (backward_out n x bx (all_every [] y 𝓢.nil (drop_empty_out S k f y (every_all S [] y sy) h))))
