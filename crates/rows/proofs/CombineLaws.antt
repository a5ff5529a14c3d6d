-- A combination bit by bit: a number is twice its half and its lowest bit, so a combination is x times that of the halves, plus the rows whose
-- number is odd. Byte i of it is the numbers against column i.
-- Assumes nothing.
use mathlib.Core.Path.{◌≡◌, refl, sym, ap, ap₂, ◌∙◌, subst}
use mathlib.Core.List.{List, [], ◌∷◌, map}
use Prim.Native.Nat.{ℕ, zero, suc, ◌+◌, ◌*◌, ◌/◌, ◌%◌, ◌^◌, ◌≤◌, ◌<◌}
use native.Mathlib.Nat.{zero-mul as nat-zero-mul, one-mul as nat-one-mul, pow-suc, div-one, div-div-eq-div-mul, div-le_self}
use native.Mathlib.Omega.{arith}
use lib.ListN.{length, get_or, drop, replicate, length-replicate}
use lib.Seq.{ext_get_or, get_or-take, get_or-drop}
use Rattle.galois.specs.Gf.{◌⊕◌}
use Rattle.galois.specs.FieldLaws.{FieldLaws}
use Rattle.galois.proofs.Sum.{⊕_middle, ⊕_above, digit}
use Rattle.galois.proofs.Field.{mul_zero, zero_mul, one_mul, ⊕_mul}
use Rattle.linear.specs.All.{All}
use Rattle.linear.specs.Rows.{scale_row}
use Rattle.linear.specs.Buffer.{rows_of}
use Rattle.linear.specs.Pieces.{column, dot, combine}
use Rattle.linear.proofs.All.{zeros_entry}
use Rattle.linear.proofs.Sums.{length_scale, scale_entry}
use Rattle.linear.proofs.Buffer.{sizes_of}
use Rattle.linear.proofs.Coding.{length_combine, combine_entry}
use Rattle.rows.specs.Outcomes.{add_row}
use Rattle.rows.specs.Chosen.{sum_chosen}
use Rattle.rows.proofs.RowLaws.{length_sum, get_or_sum}

-- there is one row of no bytes
pub one_empty : (r s : List ℕ) → length r ≡ 0 → length s ≡ 0 → r ≡ s
one_empty [] [] e f = refl
one_empty [] (y ∷ s) e f = absurd (omega arith)
one_empty (x ∷ r) s e f = absurd (omega arith)

-- ---- the numbers without their b low bits, and bit b of each

abbrev pub above : ℕ → List ℕ → List ℕ
above b cs = map (λ n. n / 2 ^ b) cs

abbrev pub bits : ℕ → List ℕ → List ℕ
bits b cs = map (λ n. n / 2 ^ b % 2) cs

pub above_none : (cs : List ℕ) → above 0 cs ≡ cs
above_none [] = refl
above_none (c ∷ cs) = ap₂ (λ (n : ℕ) (l : List ℕ). n ∷ l) (div-one c) (above_none cs)

module _ (𝓕 : FieldLaws) where
  by_half : (c y : ℕ) → c < 256 → 𝓕.mul c y ≡ 𝓕.mul 2 (𝓕.mul (c / 2) y) ⊕ 𝓕.mul (c % 2) y
  by_half c y h =
      let parts : c ≡ c / 2 * 2 + c % 2 = omega arith in
      let low : c / 2 < 128 = omega arith in
      ap (λ (n : ℕ). 𝓕.mul n y) (parts ∙ sym (⊕_above (c / 2) 1 (c % 2) (digit c))) ∙ ⊕_mul 𝓕 (c / 2 * 2) (c % 2) y
      ∙ ap (λ (n : ℕ). n ⊕ 𝓕.mul (c % 2) y) (ap (λ (n : ℕ). 𝓕.mul n y) (sym (𝓕.mul_x (c / 2) low)) ∙ 𝓕.mul_assoc 2 (c / 2) y)

  -- a byte has no bit behind the eighth
  dot_above : (cs v : List ℕ) → ((i : ℕ) → get_or cs i 0 < 256) → dot 𝓕 (above 8 cs) v ≡ 0
  unfolding dot
  dot_above [] v h = refl
  dot_above (c ∷ cs) [] h = refl
  dot_above (c ∷ cs) (y ∷ v) h =
      let none : c / 256 ≡ 0 = omega (arith, h 0) in
      ap₂ (λ (m n : ℕ). m ⊕ n) (ap (λ (m : ℕ). 𝓕.mul m y) none ∙ zero_mul 𝓕 y) (dot_above cs v (λ i. h (suc i)))

  dot_half : (b : ℕ) (cs v : List ℕ) → ((i : ℕ) → get_or cs i 0 < 256)
      → dot 𝓕 (above b cs) v ≡ 𝓕.mul 2 (dot 𝓕 (above (suc b) cs) v) ⊕ dot 𝓕 (bits b cs) v
  unfolding dot
  dot_half b [] v h = sym (ap (λ (n : ℕ). n ⊕ 0) (mul_zero 𝓕 2))
  dot_half b (c ∷ cs) [] h = sym (ap (λ (n : ℕ). n ⊕ 0) (mul_zero 𝓕 2))
  dot_half b (c ∷ cs) (y ∷ v) h =
      let small : c / 2 ^ b < 256 = omega (arith, h 0, div-le_self c (2 ^ b)) in
      let half : c / 2 ^ b / 2 ≡ c / 2 ^ suc b = div-div-eq-div-mul c (2 ^ b) 2 ∙ ap (λ (n : ℕ). c / n) (sym (pow-suc 2 b)) in
      ap₂ (λ (m n : ℕ). m ⊕ n) (by_half (c / 2 ^ b) y small) (dot_half b cs v (λ i. h (suc i)))
      ∙ ⊕_middle (𝓕.mul 2 (𝓕.mul (c / 2 ^ b / 2) y)) (𝓕.mul (c / 2 ^ b % 2) y) (𝓕.mul 2 (dot 𝓕 (above (suc b) cs) v)) (dot 𝓕 (bits b cs) v)
      ∙ ap (λ (n : ℕ). n ⊕ (𝓕.mul (c / 2 ^ b % 2) y ⊕ dot 𝓕 (bits b cs) v))
      (sym (𝓕.mul_⊕ 2 (𝓕.mul (c / 2 ^ b / 2) y) (dot 𝓕 (above (suc b) cs) v))
      ∙ ap (λ (n : ℕ). 𝓕.mul 2 (𝓕.mul n y ⊕ dot 𝓕 (above (suc b) cs) v)) half)

  -- ---- the rows whose number has a bit

  digit_mul : (d x : ℕ) → d < 2 → x < 256 → d * x ≡ 𝓕.mul d x
  digit_mul zero x h l = nat-zero-mul x ∙ sym (zero_mul 𝓕 x)
  digit_mul (suc zero) x h l = nat-one-mul x ∙ sym (one_mul 𝓕 x l)
  digit_mul (suc (suc d)) x h l = absurd (omega arith)

  module _ (b n : ℕ) where
    chosen_dot : (i : ℕ) → i < n → (cs buffer : List ℕ) → ((k : ℕ) → get_or buffer k 0 < 256)
        → sum_chosen b n cs buffer i ≡ dot 𝓕 (bits b cs) (column i (rows_of n (length cs) buffer))
    unfolding sum_chosen dot column rows_of
    chosen_dot i h [] buffer byte = refl
    chosen_dot i h (c ∷ cs) buffer byte =
        ap₂ (λ (x y : ℕ). x ⊕ y)
        (digit_mul (c / 2 ^ b % 2) (get_or buffer i 0) (digit (c / 2 ^ b)) (byte i)
        ∙ ap (𝓕.mul (c / 2 ^ b % 2)) (sym (get_or-take n buffer i 0 h)))
        (chosen_dot i h cs (drop n buffer) (λ k. subst (λ (x : ℕ). x < 256) (sym (get_or-drop n buffer k 0)) (byte (n + k))))

    -- bytes that have all of them added
    pub chosen_all : (cs buffer old : List ℕ) {now : List ℕ} → ((k : ℕ) → get_or buffer k 0 < 256) → length cs * n ≤ length buffer
        → length old ≡ n → length now ≡ n
        → ((i : ℕ) → i < n → get_or now i 0 ≡ get_or old i 0 ⊕ sum_chosen b n cs buffer i)
        → now ≡ add_row (combine 𝓕 n (bits b cs) (rows_of n (length cs) buffer)) old
    chosen_all cs buffer old {now} byte fit lo ln f =
        let rows : List (List ℕ) = rows_of n (length cs) buffer in
        let sum : List ℕ = combine 𝓕 n (bits b cs) rows in
        let wide : length sum ≡ n = length_combine 𝓕 n (bits b cs) rows in
        ext_get_or 0 now (add_row sum old) (ln ∙ sym (length_sum sum old ∙ lo)) (λ i h.
        let k : i < n = omega arith in
        f i k
        ∙ ap (λ (x : ℕ). get_or old i 0 ⊕ x)
        (chosen_dot i k cs buffer byte ∙ sym (combine_entry 𝓕 n (bits b cs) rows (sizes_of n (length cs) buffer fit) i))
        ∙ sym (get_or_sum sum old i (omega arith) (omega arith)))

  -- ---- the loop over bits

  module _ (n : ℕ) (cs : List ℕ) (rows : List (List ℕ)) (small : (i : ℕ) → get_or cs i 0 < 256) (s : All (λ r. length r ≡ n) rows) where
    no_bit : combine 𝓕 n (above 8 cs) rows ≡ replicate n 0
    no_bit =
        ext_get_or 0 (combine 𝓕 n (above 8 cs) rows) (replicate n 0) (length_combine 𝓕 n (above 8 cs) rows ∙ sym (length-replicate n 0)) (λ i h.
        combine_entry 𝓕 n (above 8 cs) rows s i ∙ dot_above cs (column i rows) small ∙ sym (zeros_entry n i))

    next_bit : (b : ℕ)
        → add_row (combine 𝓕 n (bits b cs) rows) (scale_row 𝓕 2 (combine 𝓕 n (above (suc b) cs) rows)) ≡ combine 𝓕 n (above b cs) rows
    next_bit b =
        let odd : List ℕ = combine 𝓕 n (bits b cs) rows in
        let high : List ℕ = combine 𝓕 n (above (suc b) cs) rows in
        let lo : length odd ≡ n = length_combine 𝓕 n (bits b cs) rows in
        let lh : length (scale_row 𝓕 2 high) ≡ n = length_scale 𝓕 2 high ∙ length_combine 𝓕 n (above (suc b) cs) rows in
        ext_get_or 0 (add_row odd (scale_row 𝓕 2 high)) (combine 𝓕 n (above b cs) rows)
        (length_sum odd (scale_row 𝓕 2 high) ∙ lh ∙ sym (length_combine 𝓕 n (above b cs) rows)) (λ i h.
        let k : i < length (scale_row 𝓕 2 high) = omega (arith, length_sum odd (scale_row 𝓕 2 high)) in
        get_or_sum odd (scale_row 𝓕 2 high) i (omega arith) k
        ∙ ap₂ (λ (x y : ℕ). x ⊕ y) (scale_entry 𝓕 2 high i ∙ ap (𝓕.mul 2) (combine_entry 𝓕 n (above (suc b) cs) rows s i))
        (combine_entry 𝓕 n (bits b cs) rows s i)
        ∙ sym (combine_entry 𝓕 n (above b cs) rows s i ∙ dot_half b cs (column i rows) small))

  module _ (n m : ℕ) (cs buffer : List ℕ) (small : (i : ℕ) → get_or cs i 0 < 256) (fit : m * n ≤ length buffer) where
    widen : (b : ℕ) (old : List ℕ) {last : List ℕ} → length old ≡ n → last ≡ add_row (combine 𝓕 (length old) (bits b cs) (rows_of (length old) m buffer)) old
        → last ≡ add_row (combine 𝓕 n (bits b cs) (rows_of n m buffer)) old
    widen b old l e = e ∙ ap (λ (w : ℕ). add_row (combine 𝓕 w (bits b cs) (rows_of w m buffer)) old) l

    -- no bit yet
    pub begun : {clear : List ℕ} → clear ≡ replicate n 0 → clear ≡ combine 𝓕 n (above 8 cs) (rows_of n m buffer)
    begun z = z ∙ sym (no_bit n cs (rows_of n m buffer) small (sizes_of n m buffer fit))

    -- the next bit, added to x times what the higher ones made
    pub grown : (b : ℕ) (old twice : List ℕ) {last : List ℕ} → old ≡ combine 𝓕 n (above (suc b) cs) (rows_of n m buffer) → twice ≡ scale_row 𝓕 2 old
        → last ≡ add_row (combine 𝓕 (length twice) (bits b cs) (rows_of (length twice) m buffer)) twice → last ≡ combine 𝓕 n (above b cs) (rows_of n m buffer)
    grown b old twice h d e =
        widen b twice (ap length d ∙ length_scale 𝓕 2 old ∙ ap length h ∙ length_combine 𝓕 n (above (suc b) cs) (rows_of n m buffer)) e
        ∙ ap (add_row (combine 𝓕 n (bits b cs) (rows_of n m buffer))) (d ∙ ap (scale_row 𝓕 2) h)
        ∙ next_bit n cs (rows_of n m buffer) small (sizes_of n m buffer fit) b
