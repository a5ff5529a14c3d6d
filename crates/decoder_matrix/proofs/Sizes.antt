-- What the sizes of a matrix that fit say: every row held lies within the buffer lent.
-- Assumes nothing.
use mathlib.Core.Path.{◌≡◌, refl, sym}
use mathlib.Core.Bool.{Bool, true, false}
use mathlib.Core.List.{List}
use Prim.Native.Nat.{ℕ, ◌+◌, ◌*◌, ◌/◌, ◌≤◌, ◌<◌}
use native.Mathlib.Nat.{mul-le-mul_right, le-div_iff_mul-le, div-lt_iff_lt-mul}
use native.Mathlib.Omega.{arith}
use lib.Dec.{leb}
use lib.ListN.{length, get_or}
use Rattle.linear.proofs.Choice.{and_true}
use Rattle.linear.specs.Rows.{entry}
use Rattle.linear.proofs.Buffer.{row_end, entry_at}
use borrow.Author.Tests.{leb-true, leb-false, le-leb, lt-leb}
use Rattle.decoder_matrix.specs.declared.DecoderMatrix.{DecoderMatrix}
use Rattle.decoder_matrix.specs.Matrix.{k_of, sizes_fit, rows_in, with_rows}

-- the test by a division, where k · c may be no usize
pub by_division : (k c n : ℕ) → 0 < c → leb k (n / c) ≡ leb (k * c) n
by_division k c n h = go (leb (k * c) n) refl
  where
    go : (t : Bool) → leb (k * c) n ≡ t → leb k (n / c) ≡ t
    go true e = le-leb k (n / c) ((le-div_iff_mul-le h).1 (leb-true (k * c) n e))
    go false e = lt-leb k (n / c) ((div-lt_iff_lt-mul h).1 (leb-false (k * c) n e))

pub record Sized (m : DecoderMatrix) (n : ℕ) : Type 0 where
  pub few : m.rows ≤ k_of m
  pub wide : k_of m ≤ m.cols
  pub room : k_of m * m.cols ≤ n
  pub held : m.rows * m.cols ≤ n

module _ (m : DecoderMatrix) (n : ℕ) where
  pub sized : sizes_fit m n ≡ true → Sized m n
  unfolding sizes_fit
  sized e =
      let a = and_true (leb m.rows (k_of m)) _ e in
      let b = and_true (leb (k_of m) m.cols) _ a.1 in
      let few : m.rows ≤ k_of m = leb-true m.rows (k_of m) a.0 in
      let room : k_of m * m.cols ≤ n = leb-true (k_of m * m.cols) n b.1 in
      record { few = few; wide = leb-true (k_of m) m.cols b.0; room = room; held = omega (arith, mul-le-mul_right m.cols few) }

  -- a row that there is room for lies within the buffer, and so does a row held
  pub place_in : sizes_fit m n ≡ true → (i : ℕ) → i < k_of m → i * m.cols + m.cols ≤ n
  place_in e i h = omega (arith, (sized e).room, row_end m.cols h)

  pub row_in : sizes_fit m n ≡ true → (i : ℕ) → i < m.rows → i * m.cols + m.cols ≤ n
  row_in e i h = omega (arith, (sized e).held, row_end m.cols h)

  -- a row has a byte i for each row i, and it lies within the buffer
  pub column_in : sizes_fit m n ≡ true → (i : ℕ) → i < m.rows → i < m.cols
  column_in e i h = omega (arith, sized e)

  pub byte_in : sizes_fit m n ≡ true → (j i : ℕ) → j < m.rows → i < m.rows → j * m.cols + i < n
  byte_in e j i h k = omega (arith, row_in e j h, column_in e i k)

  -- and so do fewer rows
  pub fewer : sizes_fit m n ≡ true → (r : ℕ) → r ≤ m.rows → sizes_fit (with_rows m r) n ≡ true
  unfolding sizes_fit
  fewer e r h = let s = sized e in rw (le-leb r (k_of m) (omega arith), le-leb (k_of m) m.cols s.wide, le-leb (k_of m * m.cols) n s.room)

  -- the coefficients of a row held, and the room for k rows
  pub coefficients_in : sizes_fit m n ≡ true → (j : ℕ) → j < m.rows → j * m.cols + k_of m ≤ n
  coefficients_in e j h = omega (arith, row_in e j h, sized e)

  pub room_in : sizes_fit m n ≡ true → k_of m * m.cols ≤ n
  room_in e = (sized e).room

  pub fitting : m.rows ≤ k_of m → k_of m ≤ m.cols → sizes_fit m n ≡ leb (k_of m * m.cols) n
  unfolding sizes_fit
  fitting f w = rw (le-leb m.rows (k_of m) f, le-leb (k_of m) m.cols w)

-- byte i of row i is the entry (i, i)
pub pivot_byte : (m : DecoderMatrix) (elements : List ℕ) → sizes_fit m (length elements) ≡ true → (i : ℕ) → i < m.rows
    → get_or elements (i * m.cols + i) 0 ≡ entry (rows_in m elements) i i
pivot_byte m elements e i h = sym (entry_at m.cols m.rows i i elements h (column_in m (length elements) e i h))
