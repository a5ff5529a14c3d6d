-- A buffer is its rows and the bytes behind them. A row is a part of the buffer, and a part put back as long as it was leaves the parts around
-- it in place: so one row changes, and the rest stays.
-- Assumes nothing.
use mathlib.Core.Path.{◌≡◌, refl, sym, ap, ◌∙◌, subst}
use mathlib.Core.List.{List, [], ◌∷◌, ◌++◌, append_assoc}
use Prim.Native.Nat.{ℕ, zero, suc, ◌+◌, ◌-◌, ◌*◌, ◌≤◌, ◌<◌}
use native.Mathlib.Nat.{le_of_suc-le-suc, not-suc-le-zero, zero-mul, suc-mul, mul-le-mul_right, zero-add, suc-add, add_comm, sub-zero, suc-sub-suc}
use native.Mathlib.Numerals.{add-one}
use native.Mathlib.Omega.{arith}
use lib.ListN.{length, get_or, take, drop, set, length-append, length-drop, length-take, length-set, take-append-drop, replicate, length-replicate, replicate-append-replicate}
use Rattle.std.proofs.lemmas.Slice.{drop-append-drop}
use lib.Seq.{set_at, take_at, drop_at, take-add, drop-drop, length-take-le, set-append_left, get_or-take, get_or-drop}
use Rattle.linear.specs.All.{All, none, more}
use Rattle.linear.specs.Rows.{entry}
use Rattle.linear.specs.Buffer.{rows_of, row_at, put_row, Ruled}

-- ---- a part of a buffer

-- the buffer with the k bytes from a on replaced by r, as the loan of `&mut buffer[a..a + k]` leaves it
abbrev pub put : ℕ → ℕ → List ℕ → List ℕ → List ℕ
put a k r buffer = take a buffer ++ (r ++ drop k (drop a buffer))

pub put_same : (a : ℕ) {k f : ℕ} (buffer : List ℕ) {r r' : List ℕ} → k ≡ f → r ≡ r' → put a k r buffer ≡ put a f r' buffer
put_same a buffer g e = λ i. put a (g i) (e i) buffer

pub length_part : (a f : ℕ) (buffer : List ℕ) → a + f ≤ length buffer → length (take f (drop a buffer)) ≡ f
length_part a f buffer h = length-take-le f (drop a buffer) (simp length-drop (omega arith))

pub length_put : (a k : ℕ) (r buffer : List ℕ) → a + k ≤ length buffer → length r ≡ k → length (put a k r buffer) ≡ length buffer
length_put a k r buffer h e = simp (length-append, length-drop, length-take-le a buffer (omega arith)) (omega (arith, e))

-- what is behind the part stays
pub rest_put : (c a f : ℕ) (r buffer : List ℕ) → a + f ≤ c → a + f ≤ length buffer → length r ≡ f → drop c (put a f r buffer) ≡ drop c buffer
rest_put c a f r buffer h w e =
    let long : length (take a buffer ++ r) ≡ a + f = simp (length-append, length-take-le a buffer (omega arith), e) refl in
    (λ i. drop c (take a buffer ++ (r ++ drop-drop f a buffer i))) ∙ ap (drop c) (sym (append_assoc (take a buffer) r (drop (a + f) buffer)))
    ∙ drop-append-drop (a + f) buffer (take a buffer ++ r) c h long

-- a byte stored is a part put back
pub store_put : (a f : ℕ) (buffer : List ℕ) (t v : ℕ) → t < f → a + f ≤ length buffer
    → set buffer (a + t) v ≡ put a f (set (take f (drop a buffer)) t v) buffer
store_put zero f buffer t v h k =
    let e : t < length (take f buffer) = simp length-take (omega arith) in
    ap (λ (i : ℕ). set buffer i v) (zero-add t) ∙ ap (λ (l : List ℕ). set l t v) (sym (take-append-drop f buffer))
    ∙ set-append_left (take f buffer) (drop f buffer) t v e
store_put (suc a) f [] t v h k = absurd (omega arith)
store_put (suc a) f (x ∷ buffer) t v h k =
    ap (λ (i : ℕ). set (x ∷ buffer) i v) (suc-add a t) ∙ ap (λ (l : List ℕ). x ∷ l) (store_put a f buffer t v h (omega arith))

-- ---- the rows of a buffer

module _ (f : ℕ) where
  -- row j lies within the first n
  pub row_end : {j n : ℕ} → j < n → j * f + f ≤ n * f
  row_end {j} {n} h = subst (λ (k : ℕ). k ≤ n * f) (suc-mul j f) (mul-le-mul_right f h)

  pub suc_row : (j : ℕ) → suc j * f ≡ f + j * f
  suc_row j = suc-mul j f ∙ add_comm (j * f) f

  pub length_rows_of : (n : ℕ) (buffer : List ℕ) → length (rows_of f n buffer) ≡ n
  unfolding rows_of
  length_rows_of zero buffer = refl
  length_rows_of (suc n) buffer = ap suc (length_rows_of n (drop f buffer))

  pub row_at_lem : (n j : ℕ) (buffer : List ℕ) → j < n → get_or (rows_of f n buffer) j [] ≡ row_at f j buffer
  unfolding rows_of
  row_at_lem zero j buffer h = absurd (not-suc-le-zero h)
  row_at_lem (suc n) zero buffer h = ap (λ (k : ℕ). take f (drop k buffer)) (sym (zero-mul f))
  row_at_lem (suc n) (suc j) buffer h =
      row_at_lem n j (drop f buffer) (le_of_suc-le-suc h) ∙ ap (take f) (drop-drop (j * f) f buffer)
      ∙ ap (λ (k : ℕ). take f (drop k buffer)) (sym (suc_row j))

  -- the byte at column c of row j
  pub entry_at : (n j c : ℕ) (buffer : List ℕ) → j < n → c < f → entry (rows_of f n buffer) j c ≡ get_or buffer (j * f + c) 0
  unfolding entry
  entry_at n j c buffer h k =
      ap (λ (r : List ℕ). get_or r c 0) (row_at_lem n j buffer h) ∙ get_or-take f (drop (j * f) buffer) c 0 k ∙ get_or-drop (j * f) buffer c 0

  pub length_row : (n j : ℕ) (buffer : List ℕ) → j < n → n * f ≤ length buffer → length (get_or (rows_of f n buffer) j []) ≡ f
  length_row n j buffer h w = ap length (row_at_lem n j buffer h) ∙ length_part (j * f) f buffer (omega (arith, row_end h))

  pub sizes_of : (n : ℕ) (buffer : List ℕ) → n * f ≤ length buffer → All (λ r. length r ≡ f) (rows_of f n buffer)
  unfolding rows_of
  sizes_of zero buffer h = none
  sizes_of (suc n) buffer h =
      more (length-take-le f buffer (omega (arith, suc_row n))) (sizes_of n (drop f buffer) (simp length-drop (omega (arith, suc_row n))))

  -- one row more at the end
  pub rows_of_suc : (n : ℕ) (buffer : List ℕ) → rows_of f (suc n) buffer ≡ rows_of f n buffer ++ (row_at f n buffer ∷ [])
  unfolding rows_of
  rows_of_suc zero buffer = ap (λ (k : ℕ). take f (drop k buffer) ∷ []) (sym (zero-mul f))
  rows_of_suc (suc n) buffer =
      ap (λ (l : List (List ℕ)). take f buffer ∷ l)
      (rows_of_suc n (drop f buffer)
      ∙ ap (λ (l : List ℕ). rows_of f n (drop f buffer) ++ (take f l ∷ []))
      (drop-drop (n * f) f buffer ∙ ap (λ (k : ℕ). drop k buffer) (sym (suc_row n))))

  -- fewer rows of the same buffer
  pub rows_of_take : (n r : ℕ) (buffer : List ℕ) → r ≤ n → take r (rows_of f n buffer) ≡ rows_of f r buffer
  unfolding rows_of
  rows_of_take n zero buffer h = refl
  rows_of_take zero (suc r) buffer h = absurd (not-suc-le-zero h)
  rows_of_take (suc n) (suc r) buffer h = ap (λ (l : List (List ℕ)). take f buffer ∷ l) (rows_of_take n r (drop f buffer) (le_of_suc-le-suc h))

  -- a buffer is its rows and what is behind them
  pub same_buffer : (n : ℕ) (a b : List ℕ) → rows_of f n a ≡ rows_of f n b → drop (n * f) a ≡ drop (n * f) b → a ≡ b
  unfolding rows_of
  same_buffer zero a b e d = rw zero-mul at d
  same_buffer (suc n) a b e d =
      let head : take f a ≡ take f b = ap (λ (l : List (List ℕ)). get_or l 0 []) e in
      let tail : rows_of f n (drop f a) ≡ rows_of f n (drop f b) = ap (drop 1) e in
      let behind : drop (n * f) (drop f a) ≡ drop (n * f) (drop f b) = rw (drop-drop (n * f) f a, drop-drop (n * f) f b, ← suc_row n) d in
      sym (take-append-drop f a) ∙ (λ i. head i ++ same_buffer n (drop f a) (drop f b) tail behind i) ∙ take-append-drop f b

  -- ---- a row, or the last rows, put into a buffer

  front : (n : ℕ) (p q : List ℕ) → length p ≡ f → rows_of f (suc n) (p ++ q) ≡ p ∷ rows_of f n q
  unfolding rows_of
  front n p q e = λ i. take_at p q f e i ∷ rows_of f n (drop_at p q f e i)

  -- past the first row, a part is put into what is behind it
  put_past : (n b k : ℕ) (r buffer : List ℕ) → f ≤ length buffer
      → rows_of f (suc n) (put (f + b) k r buffer) ≡ take f buffer ∷ rows_of f n (put b k r (drop f buffer))
  put_past n b k r buffer w =
      ap (rows_of f (suc n))
      ((λ i. take-add f b buffer i ++ (r ++ drop k (sym (drop-drop b f buffer) i)))
      ∙ append_assoc (take f buffer) (take b (drop f buffer)) (r ++ drop k (drop b (drop f buffer))))
      ∙ front n (take f buffer) (put b k r (drop f buffer)) (length-take-le f buffer w)

  pub rows_of_set : (n j : ℕ) (row buffer : List ℕ) → j < n → n * f ≤ length buffer → length row ≡ f
      → rows_of f n (put_row f j row buffer) ≡ set (rows_of f n buffer) j row
  unfolding rows_of
  rows_of_set zero j row buffer h w e = absurd (not-suc-le-zero h)
  rows_of_set (suc n) zero row buffer h w e = ap (λ (b : ℕ). rows_of f (suc n) (put b f row buffer)) (zero-mul f) ∙ front n row (drop f buffer) e
  rows_of_set (suc n) (suc j) row buffer h w e =
      ap (λ (b : ℕ). rows_of f (suc n) (put b f row buffer)) (suc_row j)
      ∙ put_past n (j * f) f row buffer (omega (arith, suc_row n))
      ∙ ap (λ (l : List (List ℕ)). take f buffer ∷ l)
      (rows_of_set n j row (drop f buffer) (le_of_suc-le-suc h) (simp length-drop (omega (arith, suc_row n))) e)

  -- rows of zeros
  rows_zero : (n : ℕ) (s : List ℕ) → rows_of f n (replicate (n * f) 0 ++ s) ≡ replicate n (replicate f 0)
  unfolding rows_of
  rows_zero zero s = refl
  rows_zero (suc n) s =
      ap (λ (k : ℕ). rows_of f (suc n) (replicate k 0 ++ s)) (suc_row n)
      ∙ ap (λ (l : List ℕ). rows_of f (suc n) (l ++ s)) (sym (replicate-append-replicate f (n * f) 0))
      ∙ ap (rows_of f (suc n)) (append_assoc (replicate f 0) (replicate (n * f) 0) s)
      ∙ front n (replicate f 0) (replicate (n * f) 0 ++ s) (length-replicate f 0)
      ∙ ap (λ (l : List (List ℕ)). replicate f 0 ∷ l) (rows_zero n s)

  rows_cleared : (n r k : ℕ) (buffer : List ℕ) → r ≤ n → n * f ≤ length buffer → r * f + k ≡ n * f
      → rows_of f n (put (r * f) k (replicate k 0) buffer) ≡ take r (rows_of f n buffer) ++ replicate (n - r) (replicate f 0)
  unfolding rows_of
  rows_cleared n zero k buffer h w e =
      let g : k ≡ n * f = omega (arith, zero-mul f) in
      ap (λ (b : ℕ). rows_of f n (put b k (replicate k 0) buffer)) (zero-mul f)
      ∙ ap (λ (b : ℕ). rows_of f n (replicate b 0 ++ drop k buffer)) g ∙ rows_zero n (drop k buffer)
      ∙ ap (λ (b : ℕ). replicate b (replicate f 0)) (sym (sub-zero n))
  rows_cleared zero (suc r) k buffer h w e = absurd (not-suc-le-zero h)
  rows_cleared (suc n) (suc r) k buffer h w e =
      ap (λ (b : ℕ). rows_of f (suc n) (put b k (replicate k 0) buffer)) (suc_row r)
      ∙ put_past n (r * f) k (replicate k 0) buffer (omega (arith, suc_row n))
      ∙ ap (λ (l : List (List ℕ)). take f buffer ∷ l)
      (rows_cleared n r k (drop f buffer) (le_of_suc-le-suc h) (simp length-drop (omega (arith, suc_row n))) (omega (arith, suc_row n, suc_row r)))
      ∙ ap (λ (b : ℕ). take f buffer ∷ (take r (rows_of f n (drop f buffer)) ++ replicate b (replicate f 0))) (sym (suc-sub-suc n r))

-- ---- the buffer as it was and as it is

module _ (f n : ℕ) (old : List ℕ) where
  -- row j put back
  pub put_row_lem : (j : ℕ) (row : List ℕ) {new : List ℕ} → j < n → n * f ≤ length old → length row ≡ f → new ≡ put_row f j row old
      → Ruled f n old new (set (rows_of f n old) j row)
  put_row_lem j row h w l e =
      subst (λ (b : List ℕ). Ruled f n old b (set (rows_of f n old) j row)) (sym e)
      (record {
        rows = rows_of_set f n j row old h w l;
        rest = rest_put (n * f) (j * f) f row old (row_end f h) (omega (arith, row_end f h)) l;
      })

  -- a byte stored at column c of row j
  pub store_row : (j c v : ℕ) → j < n → c < f → n * f ≤ length old
      → Ruled f n old (set old (j * f + c) v) (set (rows_of f n old) j (set (get_or (rows_of f n old) j []) c v))
  store_row j c v h k w =
      put_row_lem j (set (get_or (rows_of f n old) j []) c v) h w (length-set (get_or (rows_of f n old) j []) c v ∙ length_row f n j old h w)
      (store_put (j * f) f old c v k (omega (arith, row_end f h)) ∙ ap (λ (r : List ℕ). put_row f j (set r c v) old) (sym (row_at_lem f n j old h)))

  -- the rows from r on cleared
  pub cleared_tail : (r k : ℕ) {z new : List ℕ} → r ≤ n → n * f ≤ length old → r * f + k ≡ n * f → z ≡ replicate k 0 → new ≡ put (r * f) k z old
      → Ruled f n old new (take r (rows_of f n old) ++ replicate (n - r) (replicate f 0))
  cleared_tail r k h w e q g =
      subst (λ (b : List ℕ). Ruled f n old b (take r (rows_of f n old) ++ replicate (n - r) (replicate f 0)))
      (sym (g ∙ ap (λ (l : List ℕ). put (r * f) k l old) q))
      (record {
        rows = rows_cleared f n r k old h w e;
        rest = rest_put (n * f) (r * f) k (replicate k 0) old (omega arith) (omega arith) (length-replicate k 0);
      })

-- a row put behind the n rows
pub appended : (f n : ℕ) (old row : List ℕ) {new : List ℕ} → (n + 1) * f ≤ length old → length row ≡ f → new ≡ put_row f n row old
    → Ruled f (n + 1) old new (rows_of f n old ++ (row ∷ []))
appended f n old row {new} w l e =
    let u : Ruled f (n + 1) old new (set (rows_of f (n + 1) old) n row) = put_row_lem f (n + 1) old n row (omega arith) w l e in
    record {
      rows =
          u.rows ∙ ap (λ (k : ℕ). set (rows_of f k old) n row) (add-one n) ∙ ap (λ (b : List (List ℕ)). set b n row) (rows_of_suc f n old)
          ∙ set_at (rows_of f n old) (row_at f n old) [] row n (length_rows_of f n old);
      rest = u.rest;
    }
