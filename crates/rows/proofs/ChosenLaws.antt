-- Rows chosen by a bit of their numbers: the starts collected number by number, and the rows at the starts added up, a byte at a time.
-- Assumes nothing.
use mathlib.Core.Path.{◌≡◌, refl, sym, ap, ap₂, ◌∙◌, subst}
use mathlib.Core.List.{List, [], ◌∷◌, ◌++◌}
use mathlib.Core.Logic.{⊎_elim}
use Prim.Native.Nat.{ℕ, zero, suc, ◌+◌, ◌*◌, ◌/◌, ◌%◌, ◌^◌, ◌≤◌, ◌<◌}
use native.Mathlib.Nat.{add-zero, add-mul, suc-mul, zero-mul, one-mul, eq-or-lt_of_le}
use native.Mathlib.Omega.{arith}
use lib.ListN.{length, get_or, take, drop, set, get_or-append, length-append}
use lib.Seq.{drop-drop, get_or-take, get_or-drop, get_or-append_seam}
use Rattle.std.specs.Simd.{first_chunks}
use Rattle.std.proofs.lemmas.List.{take-set-le, take_more_set}
use Rattle.galois.specs.Gf.{◌⊕◌}
use Rattle.galois.proofs.Sum.{⊕_zero, zero_⊕, ⊕_assoc, digit}
use Rattle.linear.proofs.Buffer.{length_part}
use Rattle.rows.specs.Outcomes.{add_row}
use Rattle.rows.specs.Chosen.{sum_at, sum_chosen, Collected}
use Rattle.rows.proofs.RowLaws.{get_or_sum}

-- ---- sums over lists put together

sum_append : (rows : List ℕ) (i : ℕ) (a b : List ℕ) → sum_at rows (a ++ b) i ≡ sum_at rows a i ⊕ sum_at rows b i
unfolding sum_at
sum_append rows i [] b = sym (zero_⊕ (sum_at rows b i))
sum_append rows i (s ∷ a) b =
    ap (λ (x : ℕ). get_or rows (s + i) 0 ⊕ x) (sum_append rows i a b) ∙ sym (⊕_assoc (get_or rows (s + i) 0) (sum_at rows a i) (sum_at rows b i))

chosen_append : (bit width : ℕ) (a b rows : List ℕ) (i : ℕ)
    → sum_chosen bit width (a ++ b) rows i ≡ sum_chosen bit width a rows i ⊕ sum_chosen bit width b (drop (length a * width) rows) i
unfolding sum_chosen
chosen_append bit width [] b rows i =
    sym (zero_⊕ (sum_chosen bit width b (drop (0 * width) rows) i) ∙ ap (λ (n : ℕ). sum_chosen bit width b (drop n rows) i) (zero-mul width))
chosen_append bit width (c ∷ a) b rows i =
    let here : ℕ = c / 2 ^ bit % 2 * get_or rows i 0 in
    let n : width + length a * width ≡ suc (length a) * width = omega (arith, suc-mul (length a) width) in
    ap (λ (x : ℕ). here ⊕ x) (chosen_append bit width a b (drop width rows) i)
    ∙ sym (⊕_assoc here (sum_chosen bit width a (drop width rows) i) (sum_chosen bit width b (drop (length a * width) (drop width rows)) i))
    ∙ ap (λ (l : List ℕ). here ⊕ sum_chosen bit width a (drop width rows) i ⊕ sum_chosen bit width b l i)
    (drop-drop (length a * width) width rows ∙ ap (λ (m : ℕ). drop m rows) n)

pub sum_one : (rows : List ℕ) (i v : ℕ) → sum_at rows (v ∷ []) i ≡ get_or rows (v + i) 0
unfolding sum_at
sum_one rows i v = ⊕_zero (get_or rows (v + i) 0)

chosen_last : (bit width : ℕ) (numbers : List ℕ) (c : ℕ) (rows : List ℕ) (i : ℕ)
    → sum_chosen bit width (numbers ++ (c ∷ [])) rows i
    ≡ sum_chosen bit width numbers rows i ⊕ c / 2 ^ bit % 2 * get_or rows (length numbers * width + i) 0
unfolding sum_chosen
chosen_last bit width numbers c rows i =
    chosen_append bit width numbers (c ∷ []) rows i
    ∙ ap (λ (x : ℕ). sum_chosen bit width numbers rows i ⊕ x)
    (⊕_zero (c / 2 ^ bit % 2 * get_or (drop (length numbers * width) rows) i 0)
    ∙ ap (λ (x : ℕ). c / 2 ^ bit % 2 * x) (get_or-drop (length numbers * width) rows i 0))

-- ---- the starts collected

module _ (bit width : ℕ) where
  pub collects_none : Collected bit width [] []
  unfolding sum_at sum_chosen
  collects_none = record { few = omega arith; within = λ k h. absurd (omega arith); sums = λ rows i. refl }

  module _ {numbers starts : List ℕ} (c : ℕ) (h : Collected bit width numbers starts) where
    count : length (numbers ++ (c ∷ [])) ≡ length numbers + 1
    count = length-append numbers (c ∷ [])

    next : length (numbers ++ (c ∷ [])) * width ≡ length numbers * width + width
    next = ap (λ (k : ℕ). k * width) count ∙ omega arith

    -- the number lacks the bit
    lacks : c / 2 ^ bit % 2 ≡ 0 → Collected bit width (numbers ++ (c ∷ [])) starts
    lacks e = record {
      few = omega (arith, h.few, count);
      within = λ k g. omega (arith, h.within k g, next);
      sums = λ rows i.
          let x : ℕ = get_or rows (length numbers * width + i) 0 in
          h.sums rows i
          ∙ sym (chosen_last bit width numbers c rows i
          ∙ ap (λ (y : ℕ). sum_chosen bit width numbers rows i ⊕ y) (ap (λ (d : ℕ). d * x) e ∙ zero-mul x)
          ∙ ⊕_zero (sum_chosen bit width numbers rows i));
    }

    -- it has the bit, so that the start of its row is one more
    has : c / 2 ^ bit % 2 ≡ 1 → Collected bit width (numbers ++ (c ∷ [])) (starts ++ (length numbers * width ∷ []))
    has e = record {
      few = omega (arith, h.few, count, length-append starts (v ∷ []));
      within = λ k g. reach k (omega (arith, length-append starts (v ∷ [])));
      sums = λ rows i.
          let x : ℕ = get_or rows (v + i) 0 in
          sum_append rows i starts (v ∷ [])
          ∙ ap₂ (λ (y z : ℕ). y ⊕ z) (h.sums rows i) (sum_one rows i v ∙ sym (ap (λ (d : ℕ). d * x) e ∙ one-mul x))
          ∙ sym (chosen_last bit width numbers c rows i);
    }
      where
        v : ℕ
        v = length numbers * width

        reach : (k : ℕ) → k < length starts + 1 → get_or (starts ++ (v ∷ [])) k 0 + width ≤ length (numbers ++ (c ∷ [])) * width
        reach k g =
            ⊎_elim
            (λ e. subst (λ (j : ℕ). get_or (starts ++ (v ∷ [])) j 0 + width ≤ length (numbers ++ (c ∷ [])) * width) (sym e)
            (subst (λ (s : ℕ). s + width ≤ length (numbers ++ (c ∷ [])) * width) (sym (get_or-append_seam starts v [] 0)) (omega (arith, next))))
            (λ o. subst (λ (s : ℕ). s + width ≤ length (numbers ++ (c ∷ [])) * width) (sym (get_or-append starts (v ∷ []) 0 k o))
            (omega (arith, h.within k o, next)))
            (eq-or-lt_of_le {n = k} {m = length starts} (omega arith))

  -- a start stored behind the first n, and counted where the digit is 1
  pub collects_more : {numbers : List ℕ} (starts : List ℕ) (n c : ℕ) → Collected bit width numbers (take n starts) → n < length starts
      → Collected bit width (numbers ++ (c ∷ [])) (take (n + c / 2 ^ bit % 2) (set starts n (length numbers * width)))
  collects_more {numbers} starts n c h l = go (c / 2 ^ bit % 2) refl (digit (c / 2 ^ bit))
    where
      v : ℕ
      v = length numbers * width

      go : (d : ℕ) → c / 2 ^ bit % 2 ≡ d → d < 2 → Collected bit width (numbers ++ (c ∷ [])) (take (n + d) (set starts n v))
      go zero e b =
          let same : take (n + 0) (set starts n v) ≡ take n starts =
          ap (λ (k : ℕ). take k (set starts n v)) (add-zero n) ∙ take-set-le n starts n v (omega arith) in
          subst (Collected bit width (numbers ++ (c ∷ []))) (sym same) (lacks c h e)
      go (suc zero) e b = subst (Collected bit width (numbers ++ (c ∷ []))) (sym (take_more_set starts n v l)) (has c h e)
      go (suc (suc d)) e b = absurd (omega arith)

-- ---- four starts of many

pub chunk_at : (n m k : ℕ) (xs : List ℕ) → k < m → get_or (first_chunks n m xs) k [] ≡ take n (drop (k * n) xs)
chunk_at n zero k xs h = absurd (omega arith)
chunk_at n (suc m) zero xs h = ap (λ (j : ℕ). take n (drop j xs)) (sym (zero-mul n))
chunk_at n (suc m) (suc k) xs h =
    let f : n + k * n ≡ suc k * n = omega (arith, suc-mul k n) in
    chunk_at n m k (drop n xs) (omega arith) ∙ ap (take n) (drop-drop (k * n) n xs ∙ ap (λ (j : ℕ). drop j xs) f)

-- ---- the rows at the starts, added to a byte

-- a row added, at a byte
pub row_added : (rows out : List ℕ) (s k i : ℕ) → k ≡ length out → s + k ≤ length rows → i < length out
    → get_or (add_row (take k (drop s rows)) out) i 0 ≡ get_or out i 0 ⊕ get_or rows (s + i) 0
row_added rows out s k i e w h =
    get_or_sum (take k (drop s rows)) out i (omega (arith, length_part s k rows w)) h
    ∙ ap (λ (x : ℕ). get_or out i 0 ⊕ x) (get_or-take k (drop s rows) i 0 (omega arith) ∙ get_or-drop s rows i 0)

module _ (rows : List ℕ) (i : ℕ) where
  pub none_added : (old : ℕ) → old ≡ old ⊕ sum_at rows [] i
  unfolding sum_at
  none_added old = sym (⊕_zero old)

  pub four_added : (old : ℕ) (starts : List ℕ) → length starts ≡ 4
      → old ⊕ (get_or rows (get_or starts 0 0 + i) 0 ⊕ get_or rows (get_or starts 1 0 + i) 0 ⊕ get_or rows (get_or starts 2 0 + i) 0 ⊕ get_or rows (get_or starts 3 0 + i) 0)
      ≡ old ⊕ sum_at rows starts i
  unfolding sum_at
  four_added old [] e = absurd (omega (arith, e))
  four_added old (a ∷ []) e = absurd (omega (arith, e))
  four_added old (a ∷ b ∷ []) e = absurd (omega (arith, e))
  four_added old (a ∷ b ∷ c ∷ []) e = absurd (omega (arith, e))
  four_added old (a ∷ b ∷ c ∷ d ∷ []) e = simp (⊕_assoc, ⊕_zero)
  four_added old (a ∷ b ∷ c ∷ d ∷ f ∷ starts) e = absurd (omega (arith, e))

  -- the starts b are added where those of a have been
  pub more_added : (old : ℕ) (a b : List ℕ) {both : List ℕ} {x y : ℕ} → both ≡ a ++ b → x ≡ old ⊕ sum_at rows a i → y ≡ x ⊕ sum_at rows b i
      → y ≡ old ⊕ sum_at rows both i
  more_added old a b e f g =
      g ∙ ap (λ (z : ℕ). z ⊕ sum_at rows b i) f ∙ ⊕_assoc old (sum_at rows a i) (sum_at rows b i)
      ∙ ap (λ (z : ℕ). old ⊕ z) (sym (ap (λ (l : List ℕ). sum_at rows l i) e ∙ sum_append rows i a b))

-- ---- some numbers added, and the rest left with the rows behind theirs

module _ (width : ℕ) (some rest left : List ℕ) {all : List ℕ} (parts : all ≡ some ++ rest) where
  pub fits : length all * width ≤ length left → length some * width + length rest * width ≤ length left
  fits h =
      let n : length all ≡ length some + length rest = ap length parts ∙ length-append some rest in
      omega (arith, h, ap (λ (k : ℕ). k * width) n, add-mul (length some) (length rest) width)

  pub some_added : {bit : ℕ} {starts : List ℕ} (i x : ℕ) {y old : ℕ} → Collected bit width some starts → y ≡ x ⊕ sum_at left starts i
      → x ⊕ sum_chosen bit width all left i ≡ old → y ⊕ sum_chosen bit width rest (drop (length some * width) left) i ≡ old
  some_added {bit} {starts} i x {y} {old} h e f =
      let behind : List ℕ = drop (length some * width) left in
      ap (λ (z : ℕ). z ⊕ sum_chosen bit width rest behind i) (e ∙ ap (λ (z : ℕ). x ⊕ z) (h.sums left i))
      ∙ ⊕_assoc x (sum_chosen bit width some left i) (sum_chosen bit width rest behind i)
      ∙ ap (λ (z : ℕ). x ⊕ z) (sym (ap (λ (l : List ℕ). sum_chosen bit width l left i) parts ∙ chosen_append bit width some rest left i))
      ∙ f

pub none_left : (bit width : ℕ) (rest left : List ℕ) (i x : ℕ) → length rest ≡ 0 → x ⊕ sum_chosen bit width rest left i ≡ x
unfolding sum_chosen
none_left bit width [] left i x e = ⊕_zero x
none_left bit width (c ∷ rest) left i x e = absurd (omega (arith, e))

-- Named in docs/PORT.md; no proof here cites it.

-- a byte that has the rows chosen by the first numbers gets those at the starts, which the next numbers choose
pub chosen_added : {bit width : ℕ} (done next : List ℕ) {starts : List ℕ} → Collected bit width next starts → (rows : List ℕ) (i old : ℕ) {x y : ℕ}
    → x ≡ old ⊕ sum_chosen bit width done rows i → y ≡ x ⊕ sum_at (drop (length done * width) rows) starts i → y ≡ old ⊕ sum_chosen bit width (done ++ next) rows i
chosen_added {bit} {width} done next {starts} c rows i old e f =
    let behind : List ℕ = drop (length done * width) rows in
    f ∙ ap (λ (z : ℕ). z ⊕ sum_at behind starts i) e
    ∙ ⊕_assoc old (sum_chosen bit width done rows i) (sum_at behind starts i)
    ∙ ap (λ (z : ℕ). old ⊕ z)
    (ap (λ (z : ℕ). sum_chosen bit width done rows i ⊕ z) (c.sums behind i) ∙ sym (chosen_append bit width done next rows i))
