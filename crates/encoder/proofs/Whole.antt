-- The vector copied to the front of a piece, and the payload put behind it: the piece is the two of them.
-- Assumes nothing.
use mathlib.Core.Path.{◌≡◌, ap, ◌∙◌}
use mathlib.Core.List.{List, ◌++◌, append-nil}
use Prim.Native.Nat.{ℕ, ◌+◌, ◌-◌, ◌≤◌}
use native.Mathlib.Omega.{arith}
use lib.ListN.{length, take, drop, length-append, length-drop, drop_of_length-le}
use lib.Seq.{take-length, take_at, length-take-le}
use Rattle.linear.proofs.Buffer.{put}

module _ (vector full : List ℕ) (k L : ℕ) (lv : length vector ≡ k) (lf : length full ≡ k + L) where
  module _ {copied : List ℕ} (e : copied ≡ take (length vector) vector ++ drop (length vector) full) where
    front : copied ≡ vector ++ drop (length vector) full
    front = e ∙ ap (λ (l : List ℕ). l ++ drop (length vector) full) (take-length vector)

    long : length copied ≡ k + L
    long = ap length front ∙ simp (length-append, length-drop) (omega arith)

    pub payload : length (take (length copied - k) (drop k copied)) ≡ L
    payload = length-take-le (length copied - k) (drop k copied) (simp length-drop (omega arith)) ∙ ap (λ (n : ℕ). n - k) long ∙ omega arith

    pub whole : (coded : List ℕ) → put k (length copied - k) coded copied ≡ vector ++ coded
    whole coded =
        let none : length (drop k copied) ≤ length copied - k = simp length-drop (omega arith) in
        (λ i. (ap (take k) front ∙ take_at vector (drop (length vector) full) k lv) i ++ (coded ++ drop_of_length-le (drop k copied) none i))
        ∙ ap (λ (l : List ℕ). vector ++ l) (append-nil coded)
