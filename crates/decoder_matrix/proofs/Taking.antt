-- Taking a piece is `add_row` and then `rref`: the piece stands behind the rows held, and the rules on all of them leave what `take_piece` says, at the front
-- of the buffer.
-- Assumes nothing.
use mathlib.Core.Path.{◌≡◌, refl, ap, ◌∙◌}
use mathlib.Core.Bool.{Bool, true, false}
use mathlib.Core.List.{List, [], ◌∷◌, ◌++◌}
use Prim.Native.Nat.{ℕ, ◌+◌, ◌-◌, ◌*◌, ◌≤◌, ◌<◌}
use native.Mathlib.Nat.{mul-le-mul_right}
use native.Mathlib.Omega.{arith}
use lib.Dec.{ltb, eqb}
use lib.ListN.{length, replicate, length-append}
use borrow.Author.Tests.{ltb-true, eqb-true, le-leb}
use Rattle.std.specs.Prelude.{Result, Ok, Err}
use Rattle.answers.specs.declared.RLNCError.{RLNCError}
use Rattle.galois.specs.FieldLaws.{FieldLaws}
use Rattle.linear.specs.All.{none, more}
use Rattle.linear.specs.Choice.{pick}
use Rattle.linear.specs.Rows.{reduce, take_piece}
use Rattle.linear.specs.Buffer.{rows_of, put_row, Ruled, flat}
use Rattle.linear.proofs.Choice.{and_true}
use Rattle.linear.proofs.All.{all_append}
use Rattle.linear.proofs.Buffer.{length_put, row_end, appended, sizes_of, length_rows_of}
use Rattle.linear.proofs.Steps.{reduce_le}
use Rattle.decoder_matrix.specs.declared.DecoderMatrix.{DecoderMatrix}
use Rattle.decoder_matrix.specs.Matrix.{k_of, sizes_fit, rows_in, with_rows, holding}
use Rattle.decoder_matrix.specs.Outcomes.{has_room, RowAdded, reduced, Reduced}
use Rattle.decoder_matrix.proofs.Sizes.{Sized, sized, fitting}
use Rattle.linear.proofs.Flat.{rows_flat, further}
use Rattle.linear.proofs.Sizes.{reduce_sizes}

-- ---- a row was added, since a matrix came back

came_back : (s t : Bool) (m m₁ : DecoderMatrix) (a b : RLNCError) → Ok m₁ ≡ pick s (pick t (Ok m) (Err a)) (Err b) → (m₁ ≡ m) × (s ≡ true) × (t ≡ true)
came_back true true m m₁ a b e = (cc, refl, refl)
came_back true false m m₁ a b e = (cc, refl, cc)
came_back false t m m₁ a b e = (cc, cc, cc)

-- ---- the two, one after the other

module _ (𝓕 : FieldLaws) {m m₁ : DecoderMatrix} {elements piece e₁ e₂ : List ℕ} {r : Result DecoderMatrix RLNCError} (add : RowAdded m elements piece (Ok m₁) e₁) (rules : Reduced 𝓕 m₁ e₁ r e₂) where
  -- the rows wanted
  abbrev want : List (List ℕ)
  want = take_piece 𝓕 (k_of m) (rows_in m elements) piece

  -- what the answer says of the tests
  record Told : Type 0 where
    next : m₁ ≡ with_rows m (m.rows + 1)
    size : Sized m (length elements)
    room : m.rows < k_of m
    long : length piece ≡ m.cols

  tests : Told
  tests =
      let t = came_back (has_room m (length elements)) (eqb (length piece) m.cols) (with_rows m (m.rows + 1)) m₁ _ _ add.answer in
      let b = and_true (sizes_fit m (length elements)) (ltb m.rows (k_of m)) t.1 in
      record {
        next = t.0;
        size = sized m (length elements) b.0;
        room = ltb-true m.rows (k_of m) b.1;
        long = eqb-true (length piece) m.cols t.2;
      }

  stored : e₁ ≡ put_row m.cols m.rows piece elements
  stored =
      let t = came_back (has_room m (length elements)) (eqb (length piece) m.cols) (with_rows m (m.rows + 1)) m₁ _ _ add.answer in
      rw (t.1, t.2) at add.left

  same_length : length e₁ ≡ length elements
  same_length =
      ap length stored
      ∙ length_put (m.rows * m.cols) m.cols piece elements (omega (arith, tests.size.room, row_end m.cols tests.room)) tests.long

  behind : (m.rows + 1) * m.cols ≤ k_of m * m.cols
  behind = let h : m.rows + 1 ≤ k_of m = omega (arith, tests.room) in mul-le-mul_right m.cols h

  appended_row : Ruled m.cols (m.rows + 1) elements e₁ (rows_in m elements ++ (piece ∷ []))
  appended_row = appended m.cols m.rows elements piece (omega (arith, behind, tests.size.room)) tests.long stored

  rows_are : reduced 𝓕 m₁ e₁ ≡ want
  unfolding take_piece
  rows_are = ap (λ (x : DecoderMatrix). reduced 𝓕 x e₁) tests.next ∙ ap (reduce 𝓕 (k_of m)) appended_row.rows

  still_fits : sizes_fit m₁ (length e₁) ≡ true
  still_fits =
      (λ i. sizes_fit (tests.next i) (same_length i))
      ∙ fitting (with_rows m (m.rows + 1)) (length elements) (omega (arith, tests.room)) tests.size.wide
      ∙ le-leb (k_of m * m.cols) (length elements) tests.size.room

  answer : r ≡ Ok (with_rows m (length want))
  answer =
      let a : r ≡ Ok (with_rows m₁ (length (reduced 𝓕 m₁ e₁))) = rw still_fits at rules.answer in
      a ∙ (λ i. Ok (with_rows (tests.next i) (length (rows_are i))))

  left : e₂ ≡ holding m want elements
  left =
      let a : e₂ ≡ holding m₁ (reduced 𝓕 m₁ e₁) e₁ = rw still_fits at rules.left in
      a ∙ (λ i. holding (tests.next i) (rows_are i) e₁)
      ∙ ap (λ (l : List ℕ). flat want ++ (replicate ((k_of m - length want) * m.cols) 0 ++ l)) (further ((m.rows + 1) * m.cols) (k_of m * m.cols) e₁ elements behind appended_row.rest)

  held : rows_in (with_rows m (length want)) e₂ ≡ want
  unfolding take_piece
  held =
      ap (rows_of m.cols (length want)) left
      ∙ rows_flat m.cols want _
      (reduce_sizes 𝓕 (k_of m) m.cols (rows_in m elements ++ (piece ∷ [])) (all_append (sizes_of m.cols m.rows elements tests.size.held) (more tests.long none)))

  few : length want ≤ k_of m
  unfolding take_piece
  few =
      omega (arith, tests.room, reduce_le 𝓕 (k_of m) (rows_in m elements ++ (piece ∷ [])), length-append (rows_in m elements) (piece ∷ []), length_rows_of m.cols m.rows elements)

  -- the answer, the bytes left, the rows held then, and that there is room for them
  pub taking : (r ≡ Ok (with_rows m (length want))) × (e₂ ≡ holding m want elements) × (rows_in (with_rows m (length want)) e₂ ≡ want) × (length want ≤ k_of m)
  taking = (answer, left, held, few)
