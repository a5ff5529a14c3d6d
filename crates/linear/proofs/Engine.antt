-- An engine's rows kill what its pieces kill, and agree with the blocks that its pieces agree with. k rows are the identity, which kills zero
-- alone; fewer kill a vector that is not zero. So the engine is complete exactly if one block agrees, and then its payloads are that block.
-- Assumes nothing.
use mathlib.Core.Path.{◌≡◌, sym, ap, ◌∙◌}
use mathlib.Core.Logic.{◌≢◌, inl, inr, ◌↔◌}
use mathlib.Core.List.{List, [], ◌∷◌, map}
use Prim.Native.Nat.{ℕ, ◌+◌, ◌<◌}
use native.Mathlib.Decide.{ℕ_discrete, dec_lt}
use native.Mathlib.Omega.{arith}
use lib.ListN.{length, get_or, take, drop, length-map, length-drop, length-take, get_or-eq_default}
use lib.Seq.{ext_get_or, get_or-drop, drop-nil, take_all}
use Rattle.galois.specs.FieldLaws.{FieldLaws}
use Rattle.linear.specs.All.{All, none, more, Bytes}
use Rattle.linear.specs.Rows.{entry}
use Rattle.linear.specs.Pieces.{Piece, column, dot}
use Rattle.linear.specs.Blocks.{Block, Agrees, Unique, Kills, Kernel, Trivial}
use Rattle.linear.specs.Engine.{Subspace, Fits, Empty, Identity, Step, Taken, fresh, took, Engine}
use Rattle.linear.proofs.All.{all_head, all_tail, all_imp, all_both, all_at}
use Rattle.linear.proofs.Steps.{get_or_map_nil}
use Rattle.linear.proofs.Dot.{dot_empty, dot_unit}
use Rattle.linear.proofs.Linear.{Agree, fits_subspace, agree_subspace, dot_linear, kills_subspace, Told, told, told_subspace, told_agrees}
use Rattle.linear.proofs.Kernel.{kernel}
use Rattle.linear.proofs.Blocks.{length_column, column_bytes, column_entry, trivial_unique, unique_trivial, other_block}

pub taken_pieces : {step : Step} {k L : ℕ} {pieces rows : List (List ℕ)} → Taken step k L pieces rows → All (Piece k L) pieces
taken_pieces fresh = none
taken_pieces (took p h n t) = more h (taken_pieces t)

-- row i of the identity gives entry i
identity_dot : (𝓕 : FieldLaws) {k : ℕ} (rows : List (List ℕ)) → Identity k rows → (v : List ℕ) → length v ≡ k → Bytes v → (i : ℕ) → i < k
    → dot 𝓕 (get_or rows i []) v ≡ get_or v i 0
unfolding entry
identity_dot 𝓕 rows d v l b i h = dot_unit 𝓕 (get_or rows i []) v i b (omega arith) (λ c g n. d.off i c (omega arith) n) (d.on i h)

module _ (𝓕 : FieldLaws) {k L : ℕ} {step : Step} {Held : List (List ℕ) → Type 0} (𝓔 : Engine 𝓕 k L step Held) where
  -- ---- what holds of the pieces holds of the rows, and back

  pub taken_held : {pieces rows : List (List ℕ)} → Taken step k L pieces rows → Held rows
  taken_held fresh = 𝓔.held_fresh
  taken_held (took {rows = rows} p h n t) = 𝓔.held_step rows p (taken_held t) n h

  pub taken_in : {P : List ℕ → Type 0} → Subspace 𝓕 P → {pieces rows : List (List ℕ)} → Taken step k L pieces rows → All P pieces → All P rows
  taken_in 𝓢 fresh h = none
  taken_in 𝓢 (took {rows = rows} p g n t) h = 𝓔.into 𝓢 rows p (taken_held t) g (taken_in 𝓢 t (all_tail h)) (all_head h)

  pub taken_out : {P : List ℕ → Type 0} → Subspace 𝓕 P → ((r : List ℕ) → Fits (k + L) r → Empty k r → P r)
      → {pieces rows : List (List ℕ)} → Taken step k L pieces rows → All P rows → All P pieces
  taken_out 𝓢 f fresh h = none
  taken_out {P} 𝓢 f (took {rows = rows} p g n t) h =
      let w : P p × All P rows = 𝓔.back 𝓢 f rows p (taken_held t) g h in
      more w.0 (taken_out 𝓢 f t w.1)

  pub taken_fits : {pieces rows : List (List ℕ)} → Taken step k L pieces rows → All (Fits (k + L)) rows
  taken_fits t = taken_in (fits_subspace 𝓕 (k + L)) t (all_imp (λ p h. inl h.size) (taken_pieces t))

  -- ---- one piece: the blocks that agree with it and the rows are those that agree with the new rows, if there is one

  module _ (rows : List (List ℕ)) (piece : List ℕ) (h : Held rows) (f : All (Fits (k + L)) rows) (p : Piece k L piece) where
    fit : All (Fits (k + L)) (piece ∷ rows)
    fit = more (inl p.size) f

    pub step_agrees : (block : List (List ℕ)) → Agrees 𝓕 k L (piece ∷ rows) block → Agrees 𝓕 k L (step rows piece) block
    step_agrees block a =
        told_agrees 𝓕 k L block (step rows piece) (λ j l.
        let w : All (Told 𝓕 k L block j) (piece ∷ rows) = told 𝓕 k L block fit a j l in
        𝓔.into (told_subspace 𝓕 k L block j) rows piece h p (all_tail w) (all_head w))

    pub step_agreed : (block other : List (List ℕ)) → Agrees 𝓕 k L (piece ∷ rows) block → Agrees 𝓕 k L (step rows piece) other
        → Agrees 𝓕 k L (piece ∷ rows) other
    step_agreed block other a o =
        told_agrees 𝓕 k L other (piece ∷ rows) (λ j l.
        all_imp (λ r g. (g.0.0, g.0.1 ∙ g.1.1)) (all_both (told 𝓕 k L block fit a j l) (same j l)))
      where
        fitted : All (Fits (k + L)) (step rows piece)
        fitted = 𝓔.into (fits_subspace 𝓕 (k + L)) rows piece h p f (inl p.size)

        -- where the two blocks agree with each other
        Same : ℕ → List ℕ → Type 0
        Same j = Agree (k + L) (λ r. dot 𝓕 r (take k (column j block))) (λ r. dot 𝓕 r (take k (column j other)))

        none_of : (r : List ℕ) (c : List ℕ) → Empty k r → dot 𝓕 r (take k c) ≡ 0
        none_of r c e = dot_empty 𝓕 r (take k c) (λ i g. e i (omega (arith, length-take k c)))

        same : (j : ℕ) → j < L → All (Same j) (piece ∷ rows)
        same j l =
            let x : List ℕ = take k (column j block) in
            let y : List ℕ = take k (column j other) in
            let w = 𝓔.back (agree_subspace 𝓕 (k + L) (dot_linear 𝓕 (k + L) x) (dot_linear 𝓕 (k + L) y))
            (λ r f e. (f, none_of r (column j block) e ∙ sym (none_of r (column j other) e))) rows piece h p
            (all_imp (λ r g. (g.0.0, sym g.0.1 ∙ g.1.1))
            (all_both (told 𝓕 k L block fitted (step_agrees block a) j l) (told 𝓕 k L other fitted o j l))) in
            more w.0 w.1

  -- ---- all the pieces taken

  pub rows_agree : {pieces rows : List (List ℕ)} → Taken step k L pieces rows → (block : List (List ℕ)) → Agrees 𝓕 k L pieces block
      → Agrees 𝓕 k L rows block
  unfolding Agrees
  rows_agree fresh block a = none
  rows_agree (took {rows = rows} p g n t) block a =
      step_agrees rows p (taken_held t) (taken_fits t) g block (more (all_head a) (rows_agree t block (all_tail a)))

  pub rows_agreed : {pieces rows : List (List ℕ)} → Taken step k L pieces rows → (block other : List (List ℕ)) → Agrees 𝓕 k L pieces block
      → Agrees 𝓕 k L rows other → Agrees 𝓕 k L pieces other
  unfolding Agrees
  rows_agreed fresh block other a o = none
  rows_agreed (took {rows = rows} p g n t) block other a o =
      let w = step_agreed rows p (taken_held t) (taken_fits t) g block other (more (all_head a) (rows_agree t block (all_tail a))) o in
      more (all_head w) (rows_agreed t block other (all_tail a) (all_tail w))

  -- ---- complete, by the kernel: what any engine on the same pieces can be held to

  pub complete_trivial : {pieces rows : List (List ℕ)} → Taken step k L pieces rows → length rows ≡ k → Trivial 𝓕 k pieces
  unfolding Trivial Kills
  complete_trivial {rows = rows} t e v lv bv kv i = go (dec_lt i k)
    where
      killed : All (λ r. Fits (k + L) r × Kills 𝓕 v r) rows
      killed = taken_in (kills_subspace 𝓕 (k + L) v) t (all_imp (λ p h. (inl h.0.size, h.1)) (all_both (taken_pieces t) kv))

      go : Dec (i < k) → get_or v i 0 ≡ 0
      go (yes h) =
          sym (identity_dot 𝓕 rows (𝓔.full rows (taken_held t) e) v lv bv i h) ∙ (all_at [] rows i killed (omega arith)).1
      go (no h) = get_or-eq_default v 0 (omega arith)

  pub incomplete_kernel : {pieces rows : List (List ℕ)} → Taken step k L pieces rows → length rows ≢ k → Kernel 𝓕 k pieces
  unfolding Kills
  incomplete_kernel {pieces} {rows} t n =
      let m : Kernel 𝓕 k rows = kernel 𝓕 k rows (omega (arith, 𝓔.count rows (taken_held t))) in
      let v : List ℕ = m.vector in
      record {
        vector = v;
        size = m.size;
        bytes = m.bytes;
        place = m.place;
        nonzero = m.nonzero;
        killed = all_imp (λ p h. h.1)
            (taken_out (kills_subspace 𝓕 (k + L) v) (λ r f e. (f, dot_empty 𝓕 r v (λ c g. e c (omega (arith, m.size))))) t
            (all_both (taken_fits t) m.killed));
      }

  pub trivial_complete : {pieces rows : List (List ℕ)} → Taken step k L pieces rows → Trivial 𝓕 k pieces → length rows ≡ k
  unfolding Trivial
  trivial_complete {pieces} {rows} t z = go (ℕ_discrete (length rows) k)
    where
      go : Dec (length rows ≡ k) → length rows ≡ k
      go (yes e) = e
      go (no n) =
          let m : Kernel 𝓕 k pieces = incomplete_kernel t n in
          absurd (m.nonzero (z m.vector m.size m.bytes m.killed m.place))

  -- ---- demand 3

  module _ {pieces rows : List (List ℕ)} (t : Taken step k L pieces rows)
      (block : List (List ℕ)) (b : Block k L block) (a : Agrees 𝓕 k L pieces block) where
    pub complete_unique : 0 < L → (length rows ≡ k) ↔ Unique 𝓕 k L pieces block
    complete_unique l =
        ((λ e. trivial_unique 𝓕 k L pieces block b a (complete_trivial t e)), (λ u. trivial_complete t (unique_trivial 𝓕 k L pieces block b a l u)))

    -- fewer than k rows leave another block that agrees
    pub incomplete_other : 0 < L → length rows ≢ k → (other : List (List ℕ)) × Block k L other × Agrees 𝓕 k L pieces other × (other ≢ block)
    incomplete_other l n =
        let m : Kernel 𝓕 k pieces = incomplete_kernel t n in
        other_block 𝓕 k L pieces block b a l m.vector m.size m.bytes m.killed m.place m.nonzero

    -- what recovery reads: the payload of each row
    pub recovered : length rows ≡ k → map (drop k) rows ≡ block
    unfolding entry
    recovered e =
        ext_get_or [] (map (drop k) rows) block (length-map rows (drop k) ∙ e ∙ sym b.count) (λ i l.
        let h : i < k = omega (arith, length-map rows (drop k)) in
        let s : length (drop k (get_or rows i [])) ≡ L = size i h (all_at [] rows i (taken_fits t) (omega arith)) in
        get_or_map_nil (drop k) (drop-nil k) rows i
        ∙ ext_get_or 0 (drop k (get_or rows i [])) (get_or block i []) (s ∙ sym (all_at [] block i b.sizes (omega (arith, b.count))))
        (λ j g. get_or-drop k (get_or rows i []) j 0 ∙ payload i j h (omega arith)))
      where
        d : Identity k rows
        d = 𝓔.full rows (taken_held t) e

        size : (i : ℕ) → i < k → Fits (k + L) (get_or rows i []) → length (drop k (get_or rows i [])) ≡ L
        size i h (inl f) = length-drop k (get_or rows i []) ∙ omega arith
        size i h (inr f) = absurd (omega (arith, d.on i h, ap (λ (r : List ℕ). get_or r i 0) f))

        payload : (i j : ℕ) → i < k → j < L → get_or (get_or rows i []) (k + j) 0 ≡ get_or (get_or block i []) j 0
        payload i j h g =
            let c : length (column j block) ≡ k = length_column j block ∙ b.count in
            (all_at [] rows i (told 𝓕 k L block (taken_fits t) (rows_agree t block a) j g) (omega arith)).1
            ∙ ap (dot 𝓕 (get_or rows i [])) (take_all k (column j block) (omega arith))
            ∙ identity_dot 𝓕 rows d (column j block) c (column_bytes j block b.bytes) i h
            ∙ column_entry j block i

-- two engines that took the same pieces are complete at the same calls
pub same_calls : (𝓕 : FieldLaws) {k L : ℕ} {one two : Step} {H₁ H₂ : List (List ℕ) → Type 0} → Engine 𝓕 k L one H₁ → Engine 𝓕 k L two H₂
    → {pieces rows rows' : List (List ℕ)} → Taken one k L pieces rows → Taken two k L pieces rows' → (length rows ≡ k) ↔ (length rows' ≡ k)
same_calls 𝓕 𝓔₁ 𝓔₂ t₁ t₂ =
    ((λ e. trivial_complete 𝓕 𝓔₂ t₂ (complete_trivial 𝓕 𝓔₁ t₁ e)), (λ e. trivial_complete 𝓕 𝓔₁ t₁ (complete_trivial 𝓕 𝓔₂ t₂ e)))
