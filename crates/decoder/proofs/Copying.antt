-- The block copied out row by row: a turn's part of the data is the block's at its place, so that the data is the block up to there.
-- Assumes nothing.
use mathlib.Core.Path.{◌≡◌, refl, sym, ap, ◌∙◌}
use mathlib.Core.List.{List, ◌++◌, append_assoc, append-nil}
use Prim.Native.Nat.{ℕ, ◌+◌, ◌-◌, ◌*◌, ◌/◌, ◌%◌, ◌≤◌, ◌<◌, min}
use native.Mathlib.Nat.{suc-mul, mul-le-mul_right}
use native.Mathlib.Numerals.{add-one}
use native.Mathlib.Decide.{dec_le}
use native.Mathlib.Omega.{arith}
use lib.ListN.{length, take, drop, drop_of_length-le}
use lib.Seq.{take-add, take_at, drop_at, drop-drop, take-take, take_all, length-take-le}
use Rattle.std.proofs.lemmas.Grind.{div_ceil_times}
use Rattle.linear.proofs.Buffer.{put}

-- the next part put behind what is copied
pasted : (block old now r : List ℕ) (at n : ℕ) → at ≤ length block → now ≡ take at block ++ drop at old → r ≡ take n (drop at block)
    → put at n r now ≡ take (at + n) block ++ drop (at + n) old
pasted block old now r at n h e q =
    let long : length (take at block) ≡ at = length-take-le at block h in
    (λ j. put at n (q j) (e j))
    ∙ (λ j. take_at (take at block) (drop at old) at long j ++ (take n (drop at block) ++ drop n (drop_at (take at block) (drop at old) at long j)))
    ∙ sym (append_assoc (take at block) (take n (drop at block)) (drop n (drop at old)))
    ∙ (λ j. sym (take-add at n block) j ++ drop-drop n at old j)

-- up to row i, or to its end, the data is the block's
abbrev pub Copied : List ℕ → List ℕ → List ℕ → ℕ → Type 0
Copied block old now at = now ≡ take (min at (length old)) block ++ drop (min at (length old)) old

module _ (block old : List ℕ) (L i : ℕ) (w : length old ≤ length block) where
  pub turns : (now r : List ℕ) (at end : ℕ) → Copied block old now (i * L) → length now ≡ length old → at ≡ min (i * L) (length now)
      → end ≡ min (at + L) (length now) → r ≡ take (end - at) (take L (drop (i * L) block)) → Copied block old (put at (end - at) r now) ((i + 1) * L)
  turns now r at end t n p q e =
      let start : at ≡ min (i * L) (length old) = omega arith in
      let stop : at + (end - at) ≡ min ((i + 1) * L) (length old) = omega (arith, ap (λ (x : ℕ). x * L) (add-one i) ∙ suc-mul i L) in
      pasted block old now r at (end - at) (omega arith) (t ∙ ap (λ (x : ℕ). take x block ++ drop x old) (sym start)) (e ∙ part (dec_le (i * L) (length old)))
      ∙ ap (λ (x : ℕ). take x block ++ drop x old) stop
    where
      part : Dec (i * L ≤ length old) → take (end - at) (take L (drop (i * L) block)) ≡ take (end - at) (drop at block)
      part (yes h) =
          let same : i * L ≡ at = omega arith in
          take-take (end - at) L (drop (i * L) block) (omega arith) ∙ ap (λ (x : ℕ). take (end - at) (drop x block)) same
      part (no h) =
          let none : end - at ≡ 0 = omega arith in
          rw none refl

-- the rows that hold n bytes, L in each, are rows of the block, and each begins before the n bytes end
pub needed : (n L k i : ℕ) → 0 < L → n ≤ k * L → i < n / L + min 1 (n % L) → (i < k) × (i * L < n)
needed n L k i p h q =
    let c : ℕ = n / L + min 1 (n % L) in
    let over : c * L < n + L = (div_ceil_times n L p).1 in
    let up : (i + 1) * L ≤ c * L = mul-le-mul_right L (omega (arith, q)) in
    let here : i * L < n = omega (arith, ap (λ (x : ℕ). x * L) (add-one i) ∙ suc-mul i L) in
    (below (dec_le k i) here, here)
  where
    below : Dec (k ≤ i) → i * L < n → i < k
    below (yes e) g = absurd (omega (arith, mul-le-mul_right L e))
    below (no e) g = omega arith

-- Named in docs/PORT.md; no proof here cites them.

-- a copy of all of src over a part as long as it is
pub copied : (src dst last : List ℕ) → length dst ≡ length src → last ≡ take (length src) src ++ drop (length src) dst → last ≡ src
copied src dst last e h =
    h ∙ (λ j. take_all (length src) src (omega arith) j ++ drop_of_length-le dst {i = length src} (omega arith) j) ∙ append-nil src

-- before the first row, nothing is copied
pub starts : (block old : List ℕ) → Copied block old old 0
starts block old =
    let none : min 0 (length old) ≡ 0 = omega arith in
    ap (λ (x : ℕ). take x block ++ drop x old) (sym none)
