-- The data copied to the front of a block, the marker stored behind it and the rest cleared: the block is filled.
-- Assumes nothing.
use mathlib.Core.Path.{◌≡◌, refl, sym, ap, ◌∙◌}
use mathlib.Core.List.{List, [], ◌∷◌, ◌++◌, append_assoc, append-nil}
use Prim.Native.Nat.{ℕ, suc, ◌+◌, ◌-◌, ◌<◌}
use native.Mathlib.Omega.{arith}
use lib.ListN.{length, get_or, take, drop, set, replicate, length-append, length-drop, drop_of_length-le}
use lib.Seq.{take-length, drop-cons, set_at, take-append-add, length-take-le}
use Rattle.linear.proofs.Buffer.{put}
use Rattle.block.specs.Padding.{filled}

module _ (M : ℕ) (bytes block : List ℕ) (h : length bytes < length block) where
  -- with the marker stored
  marked : {copied : List ℕ} → copied ≡ take (length bytes) bytes ++ drop (length bytes) block
      → set copied (length bytes) M ≡ bytes ++ (M ∷ drop (suc (length bytes)) block)
  marked e =
      ap (λ (l : List ℕ). set l (length bytes) M)
      (e ∙ (λ i. take-length bytes i ++ drop-cons block (length bytes) 0 h i))
      ∙ set_at bytes (get_or block (length bytes) 0) (drop (suc (length bytes)) block) M (length bytes) refl

  pub length_marked : {copied : List ℕ} → copied ≡ take (length bytes) bytes ++ drop (length bytes) block → length (set copied (length bytes) M) ≡ length block
  length_marked e = ap length (marked e) ∙ simp (length-append, length-drop) (omega arith)

  pub pads : {copied zeros : List ℕ} (k : ℕ) → copied ≡ take (length bytes) bytes ++ drop (length bytes) block → k ≡ length (set copied (length bytes) M) - (length bytes + 1)
      → zeros ≡ replicate (length (take k (drop (length bytes + 1) (set copied (length bytes) M)))) 0
      → put (length bytes + 1) k zeros (set copied (length bytes) M) ≡ filled M (length block) bytes
  unfolding filled
  pads {copied} {zeros} k e f z =
      let n : ℕ = length bytes in
      let l : length (set copied n M) ≡ length block = length_marked e in
      let behind : length (drop (n + 1) (set copied n M)) ≡ k = length-drop (n + 1) (set copied n M) ∙ sym f in
      let some : length (take k (drop (n + 1) (set copied n M))) ≡ length block - (n + 1) =
      length-take-le k (drop (n + 1) (set copied n M)) (omega arith) ∙ f ∙ ap (λ (m : ℕ). m - (n + 1)) l in
      (λ i. take (n + 1) (marked e i) ++ ((z ∙ ap (λ (m : ℕ). replicate m 0) some) i ++ drop_of_length-le (drop (n + 1) (set copied n M)) {i = k} (omega arith) i))
      ∙ (λ i. take-append-add bytes (M ∷ drop (suc n) block) 1 i ++ append-nil (replicate (length block - (n + 1)) 0) i)
      ∙ append_assoc bytes (M ∷ []) (replicate (length block - (n + 1)) 0)
