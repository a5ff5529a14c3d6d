-- Rows one after the other are the front of a buffer, so that a buffer whose rows and rest are known is known.
-- Assumes nothing.
use mathlib.Core.Path.{◌≡◌, refl, sym, ap, ◌∙◌}
use mathlib.Core.List.{List, [], ◌∷◌, ◌++◌, append_assoc, append-nil}
use Prim.Native.Nat.{ℕ, zero, suc, ◌+◌, ◌-◌, ◌*◌, ◌≤◌, ◌<◌}
use native.Mathlib.Nat.{zero-mul, mul-sub, mul_comm, mul-le-mul_right}
use native.Mathlib.Omega.{arith}
use lib.ListN.{length, get_or, take, drop, replicate, take-append-drop, drop_of_length-le, length-append}
use lib.Seq.{take-add, drop-drop, take-length, take_at, drop_at}
use Rattle.linear.specs.All.{All, none, more}
use Rattle.linear.specs.Buffer.{rows_of, flat, Ruled}
use Rattle.linear.proofs.Buffer.{put, length_part, suc_row}

-- the rows of a buffer, one after the other, are its front
pub flat_front : (f n : ℕ) (b : List ℕ) → flat (rows_of f n b) ≡ take (n * f) b
unfolding flat rows_of
flat_front f zero b = ap (λ (k : ℕ). take k b) (sym (zero-mul f))
flat_front f (suc n) b =
    ap (λ (l : List ℕ). take f b ++ l) (flat_front f n (drop f b)) ∙ sym (take-add f (n * f) b) ∙ ap (λ (k : ℕ). take k b) (sym (suc_row f n))

pub as_flat : {f n : ℕ} {old new : List ℕ} {want : List (List ℕ)} → Ruled f n old new want → new ≡ flat want ++ drop (n * f) old
as_flat {f} {n} {old} {new} u =
    sym (take-append-drop (n * f) new) ∙ (λ i. (sym (flat_front f n new) ∙ ap flat u.rows) i ++ u.rest i)

-- and the other way
pub rows_flat : (f : ℕ) (rows : List (List ℕ)) (s : List ℕ) → All (λ r. length r ≡ f) rows → rows_of f (length rows) (flat rows ++ s) ≡ rows
unfolding flat rows_of
rows_flat f [] s none = refl
rows_flat f (r ∷ rs) s (more e es) =
    ap (rows_of f (suc (length rs))) (append_assoc r (flat rs) s)
    ∙ (λ i. take_at r (flat rs ++ s) f e i ∷ rows_of f (length rs) (drop_at r (flat rs ++ s) f e i))
    ∙ ap (λ (l : List (List ℕ)). r ∷ l) (rows_flat f rs s es)

pub rest_flat : (f : ℕ) (rows : List (List ℕ)) (s : List ℕ) → All (λ r. length r ≡ f) rows → drop (length rows * f) (flat rows ++ s) ≡ s
unfolding flat
rest_flat f [] s none = ap (λ (k : ℕ). drop k s) (zero-mul f)
rest_flat f (r ∷ rs) s (more e es) =
    (λ i. drop (suc_row f (length rs) i) (append_assoc r (flat rs) s i))
    ∙ sym (drop-drop (length rs * f) f (r ++ (flat rs ++ s))) ∙ ap (drop (length rs * f)) (drop_at r (flat rs ++ s) f e) ∙ rest_flat f rs s es

pub length_flat : (f : ℕ) (rows : List (List ℕ)) → All (λ r. length r ≡ f) rows → length (flat rows) ≡ length rows * f
unfolding flat
length_flat f [] none = sym (zero-mul f)
length_flat f (r ∷ rs) (more e es) = length-append r (flat rs) ∙ (λ i. e i + length_flat f rs es i) ∙ sym (suc_row f (length rs))

pub sizes_below : (f : ℕ) (rows : List (List ℕ)) → ((i : ℕ) → i < length rows → length (get_or rows i []) ≡ f) → All (λ r. length r ≡ f) rows
sizes_below f [] h = none
sizes_below f (r ∷ rs) h = more (h 0 (omega arith)) (sizes_below f rs (λ i k. h (suc i) (omega arith)))

pub flat_ruled : (f n : ℕ) (old : List ℕ) (want : List (List ℕ)) {new : List ℕ} → length want ≡ n → All (λ r. length r ≡ f) want
    → new ≡ flat want ++ drop (n * f) old → Ruled f n old new want
flat_ruled f n old want {new} l s e = record {
  rows = ap (rows_of f n) e ∙ ap (λ (k : ℕ). rows_of f k (flat want ++ drop (n * f) old)) (sym l) ∙ rows_flat f want (drop (n * f) old) s;
  rest = ap (drop (n * f)) e ∙ ap (λ (k : ℕ). drop (k * f) (flat want ++ drop (n * f) old)) (sym l) ∙ rest_flat f want (drop (n * f) old) s;
}

-- what is behind stays behind
pub further : {A : Type 0} (a b : ℕ) (x y : List A) → a ≤ b → drop a x ≡ drop a y → drop b x ≡ drop b y
further a b x y h e =
    let s : a + (b - a) ≡ b = omega arith in
    ap (λ (k : ℕ). drop k x) (sym s) ∙ sym (drop-drop (b - a) a x) ∙ ap (drop (b - a)) e ∙ drop-drop (b - a) a y ∙ ap (λ (k : ℕ). drop k y) s

-- the rows from r up to k cleared behind the r rows wanted
pub cleared_behind : (f k r x : ℕ) (old mid : List ℕ) {z : List ℕ} {want : List (List ℕ)} → r ≤ k → rows_of f r mid ≡ want → length want ≡ r
    → drop (k * f) mid ≡ drop (k * f) old → r * f + x ≡ k * f → z ≡ replicate x 0
    → put (r * f) x z mid ≡ flat want ++ (replicate ((k - length want) * f) 0 ++ drop (k * f) old)
cleared_behind f k r x old mid {z} {want} h w l d e q =
    let many : x ≡ (k - length want) * f = rw l (omega (arith, mul_comm (k - r) f, mul-sub f k r, mul_comm f k, mul_comm f r, mul-le-mul_right f h)) in
    (λ i. (sym (flat_front f r mid) ∙ ap flat w) i ++ ((q ∙ ap (λ (j : ℕ). replicate j 0) many) i ++ (drop-drop x (r * f) mid ∙ ap (λ (j : ℕ). drop j mid) e ∙ d) i))

-- Named in docs/PORT.md; no proof here cites it.

-- a row copied over a part as long as itself
pub copied : (f a : ℕ) {k : ℕ} (b row : List ℕ) {dst : List ℕ} → k ≡ f → a + f ≤ length b → length row ≡ f
    → dst ≡ take (length row) row ++ drop (length row) (take k (drop a b)) → put a k dst b ≡ put a f row b
copied f a {k} b row {dst} g w l e =
    let part : length (take k (drop a b)) ≤ length row = rw g (omega (arith, length_part a f b w)) in
    let same : dst ≡ row = e ∙ (λ i. take-length row i ++ drop_of_length-le (take k (drop a b)) part i) ∙ append-nil row in
    λ i. put a (g i) (same i) b
