-- What a swap and the three rules leave is what the contracts say; and the contracts by the tests that lead to each answer.
-- Assumes nothing.
use mathlib.Core.Path.{◌≡◌, sym, ap, ◌∙◌}
use mathlib.Core.Bool.{true, false}
use mathlib.Core.List.{List, [], ◌++◌}
use Prim.Native.Nat.{ℕ, ◌+◌, ◌-◌, ◌*◌, ◌≤◌, ◌<◌}
use native.Mathlib.Nat.{mul-le-mul_right}
use native.Mathlib.Omega.{arith}
use lib.ListN.{length, get_or, drop, replicate}
use borrow.Author.Tests.{lt-ltb, le-ltb, eq-eqb, ne_eqb}
use Rattle.std.specs.Prelude.{Ok, Err}
use Rattle.answers.specs.Number.{Answer}
use Rattle.answers.specs.declared.RLNCError.TheVariants.{InvalidPieceLength, BadState}
use Rattle.galois.specs.FieldLaws.{FieldLaws}
use Rattle.linear.specs.Rows.{swap_rows, forward, backward, drop_empty, reduce}
use Rattle.linear.specs.Buffer.{put_row, Ruled, flat}
use Rattle.linear.proofs.Buffer.{length_rows_of, length_row}
use Rattle.linear.proofs.Steps.{length_swap, swap_row}
use Rattle.decoder_matrix.specs.declared.DecoderMatrix.{DecoderMatrix}
use Rattle.decoder_matrix.specs.declared.rules.Held.{Held}
use Rattle.decoder_matrix.specs.Matrix.{k_of, sizes_fit, rows_in, with_rows, holding}
use Rattle.decoder_matrix.specs.Outcomes.{RowAdded, Swapped, reduced, Reduced}
use Rattle.linear.proofs.Flat.{as_flat, flat_ruled, further, sizes_below}
use Rattle.decoder_matrix.specs.Steps.{rows_of_held, kept_rows, Applied, Emptied}
use Rattle.decoder_matrix.proofs.Sizes.{sized}
use Rattle.decoder_matrix.proofs.Applied.{length_held, as_many, rows_after, and_then}

-- two rows held were exchanged
pub swapped : (m : DecoderMatrix) (elements : List ℕ) (i j : ℕ) {mid last : List ℕ} → sizes_fit m (length elements) ≡ true → i < m.rows → j < m.rows → last ≡ mid
    → Ruled m.cols m.rows elements mid (swap_rows (rows_in m elements) i j) → Swapped m elements i j (Ok tt) last
swapped m elements i j e hi hj q u = record {
  answer = rw (e, lt-ltb i m.rows hi, lt-ltb j m.rows hj);
  left = rw (e, lt-ltb i m.rows hi, lt-ltb j m.rows hj) (q ∙ as_flat u);
}

module _ (m : DecoderMatrix) (elements : List ℕ) (i j : ℕ) (e : sizes_fit m (length elements) ≡ true) (hi : i < m.rows) (hj : j < m.rows) where
  -- what a caller learns
  pub swapped_rows : {r : Answer} {last : List ℕ} → Swapped m elements i j r last → Ruled m.cols m.rows elements last (swap_rows (rows_in m elements) i j)
  swapped_rows {r} {last} s =
      let rows : List (List ℕ) = rows_in m elements in
      let count : length rows ≡ m.rows = length_rows_of m.cols m.rows elements in
      let w : m.rows * m.cols ≤ length elements = (sized m (length elements) e).held in
      let size : (t : ℕ) → t < m.rows → length (get_or rows t []) ≡ m.cols = λ t h. length_row m.cols m.rows t elements h w in
      let is : last ≡ flat (swap_rows rows i j) ++ drop (m.rows * m.cols) elements = rw (e, lt-ltb i m.rows hi, lt-ltb j m.rows hj) at s.left in
      flat_ruled m.cols m.rows elements (swap_rows rows i j) (length_swap rows i j ∙ count)
      (sizes_below m.cols (swap_rows rows i j)
      (λ t h. swap_row rows i j (λ x. length x ≡ m.cols) (omega arith) (omega arith) (size i hi) (size j hj) t (size t (omega (arith, length_swap rows i j)))))
      is

-- the three rules, one after the other
module _ (𝓕 : FieldLaws) {h₀ h₁ h₂ h₃ : Held} (a : Applied (forward 𝓕 h₀.matrix.rows) h₀ h₁) (b : Applied (backward 𝓕 h₁.matrix.rows) h₁ h₂) (e : Emptied h₂ h₃) where
  same_rows : kept_rows h₂ ≡ reduced 𝓕 h₀.matrix h₀.elements.now
  unfolding reduce
  same_rows =
      let both = and_then a b in
      let n : h₀.matrix.rows ≡ length (rows_of_held h₀) = sym (length_held h₀) in
      ap (λ (m : DecoderMatrix). drop_empty (k_of m) (rows_of_held h₂)) both.matrix
      ∙ ap (drop_empty (k_of h₀.matrix)) (rows_after both ∙ (λ i. backward 𝓕 ((as_many a ∙ n) i) (forward 𝓕 (n i) (rows_of_held h₀))))

  pub ruled : {last : List ℕ} → last ≡ h₃.elements.now → Reduced 𝓕 h₀.matrix h₀.elements.now (Ok h₃.matrix) last
  ruled {last} q =
      let both = and_then a b in
      let m : DecoderMatrix = h₀.matrix in
      let behind = further (m.rows * m.cols) (k_of m * m.cols) h₂.elements.now h₀.elements.now (mul-le-mul_right m.cols (sized m (length h₀.elements.now) h₀.fits).few) both.ruled.rest in
      record {
        answer = rw h₀.fits (ap Ok (e.matrix ∙ (λ i. with_rows (both.matrix i) (length (same_rows i)))));
        left =
            rw h₀.fits
            (q ∙ e.left ∙ (λ i. holding (both.matrix i) (same_rows i) h₂.elements.now)
            ∙ ap (λ (l : List ℕ). flat (reduced 𝓕 m h₀.elements.now) ++ (replicate ((k_of m - length (reduced 𝓕 m h₀.elements.now)) * m.cols) 0 ++ l)) behind);
      }

-- Named in docs/PORT.md; no proof here cites them.

module _ (m : DecoderMatrix) (elements row : List ℕ) where
  pub unfit_row : sizes_fit m (length elements) ≡ false → RowAdded m elements row (Err BadState) elements
  unfit_row e = record { answer = rw e; left = rw e }

  module _ (e : sizes_fit m (length elements) ≡ true) where
    pub full_row : k_of m ≤ m.rows → RowAdded m elements row (Err BadState) elements
    full_row h = record { answer = rw (e, le-ltb m.rows (k_of m) h); left = rw (e, le-ltb m.rows (k_of m) h) }

    pub other_row : m.rows < k_of m → (length row ≡ m.cols → ⊥) → RowAdded m elements row (Err InvalidPieceLength) elements
    other_row h n = record {
      answer = rw (e, lt-ltb m.rows (k_of m) h, ne_eqb (length row) m.cols n);
      left = rw (e, lt-ltb m.rows (k_of m) h, ne_eqb (length row) m.cols n);
    }

    pub stored_row : {last : List ℕ} → m.rows < k_of m → length row ≡ m.cols → last ≡ put_row m.cols m.rows row elements
        → RowAdded m elements row (Ok (with_rows m (m.rows + 1))) last
    stored_row h l q = record {
      answer = rw (e, lt-ltb m.rows (k_of m) h, eq-eqb (length row) m.cols l);
      left = rw (e, lt-ltb m.rows (k_of m) h, eq-eqb (length row) m.cols l) q;
    }

module _ (m : DecoderMatrix) (elements : List ℕ) (i j : ℕ) where
  pub unfit_swap : sizes_fit m (length elements) ≡ false → Swapped m elements i j (Err BadState) elements
  unfit_swap e = record { answer = rw e; left = rw e }

  module _ (e : sizes_fit m (length elements) ≡ true) where
    pub no_first : m.rows ≤ i → Swapped m elements i j (Err BadState) elements
    no_first h = record { answer = rw (e, le-ltb i m.rows h); left = rw (e, le-ltb i m.rows h) }

    pub no_second : i < m.rows → m.rows ≤ j → Swapped m elements i j (Err BadState) elements
    no_second h k = record { answer = rw (e, lt-ltb i m.rows h, le-ltb j m.rows k); left = rw (e, lt-ltb i m.rows h, le-ltb j m.rows k) }

pub unfit_rules : (𝓕 : FieldLaws) (m : DecoderMatrix) (elements : List ℕ) → sizes_fit m (length elements) ≡ false
    → Reduced 𝓕 m elements (Err BadState) elements
unfit_rules 𝓕 m elements e = record { answer = rw e; left = rw e }
