-- A combination is a sum of multiples: byte j of it is the numbers against column j. Coding is that sum over the block, and recoding keeps what
-- sums and multiples keep, so that both make truthful pieces.
-- Assumes nothing.
use mathlib.Core.Path.{◌≡◌, sym, ap, ◌∙◌}
use mathlib.Core.Logic.{inl}
use mathlib.Core.List.{List, [], ◌∷◌, ◌++◌}
use Prim.Native.Nat.{ℕ, ◌+◌}
use lib.ListN.{length, get_or, take, replicate, length-replicate, length-append}
use lib.Seq.{get_or-append-add, take_at}
use Rattle.galois.specs.Gf.{◌⊕◌}
use Rattle.galois.specs.FieldLaws.{FieldLaws}
use Rattle.galois.proofs.Sum.{⊕_comm}
use Rattle.linear.specs.All.{All, Bytes}
use Rattle.linear.specs.Pieces.{Piece, column, dot, Truthful, combine, encode, recode}
use Rattle.linear.specs.Blocks.{Block, Agrees}
use Rattle.linear.specs.Engine.{Subspace}
use Rattle.linear.proofs.All.{all_head, all_tail, all_imp, all_append, zeros_bytes, zeros_entry}
use Rattle.linear.proofs.Sums.{length_add, add_entry}
use Rattle.linear.proofs.Subspace.{bytes_subspace}
use Rattle.linear.proofs.Dot.{dot_take, dot_empty}
use Rattle.linear.proofs.Linear.{told, told_subspace}

module _ (𝓕 : FieldLaws) where
  pub length_combine : (n : ℕ) (cs : List ℕ) (rows : List (List ℕ)) → length (combine 𝓕 n cs rows) ≡ n
  unfolding combine
  length_combine n [] rows = length-replicate n 0
  length_combine n (c ∷ cs) [] = length-replicate n 0
  length_combine n (c ∷ cs) (r ∷ rs) = length_add 𝓕 c r (combine 𝓕 n cs rs) ∙ length_combine n cs rs

  pub combine_entry : (n : ℕ) (cs : List ℕ) (rows : List (List ℕ)) → All (λ r. length r ≡ n) rows → (j : ℕ)
      → get_or (combine 𝓕 n cs rows) j 0 ≡ dot 𝓕 cs (column j rows)
  unfolding combine dot column
  combine_entry n [] rows h j = zeros_entry n j
  combine_entry n (c ∷ cs) [] h j = zeros_entry n j
  combine_entry n (c ∷ cs) (r ∷ rs) h j =
      add_entry 𝓕 c r (combine 𝓕 n cs rs) j (all_head h ∙ sym (length_combine n cs rs))
      ∙ ⊕_comm (get_or (combine 𝓕 n cs rs) j 0) (𝓕.mul c (get_or r j 0))
      ∙ ap (λ (x : ℕ). 𝓕.mul c (get_or r j 0) ⊕ x) (combine_entry n cs rs (all_tail h) j)

  pub combine_in : {P : List ℕ → Type 0} → Subspace 𝓕 P → (n : ℕ) → P (replicate n 0) → (cs : List ℕ) (rows : List (List ℕ)) → All P rows
      → P (combine 𝓕 n cs rows)
  unfolding combine
  combine_in 𝓢 n z [] rows h = z
  combine_in 𝓢 n z (c ∷ cs) [] h = z
  combine_in 𝓢 n z (c ∷ cs) (r ∷ rs) h = 𝓢.add c r (combine 𝓕 n cs rs) (all_head h) (combine_in 𝓢 n z cs rs (all_tail h))

  module _ (k L : ℕ) (block : List (List ℕ)) where
    -- ---- what coding makes

    module _ (vector : List ℕ) (b : Block k L block) (l : length vector ≡ k) where
      pub encode_piece : Bytes vector → Piece k L (encode 𝓕 L block vector)
      unfolding encode
      encode_piece v = record {
        size = length-append vector (combine 𝓕 L vector block) ∙ (λ i. l i + length_combine L vector block i);
        bytes = all_append v (combine_in (bytes_subspace 𝓕) L (zeros_bytes L) vector block b.bytes);
      }

      pub encode_truthful : Truthful 𝓕 k L block (encode 𝓕 L block vector)
      unfolding encode Truthful
      encode_truthful j h =
          ap (λ (n : ℕ). get_or (vector ++ combine 𝓕 L vector block) (n + j) 0) (sym l)
          ∙ get_or-append-add vector (combine 𝓕 L vector block) j 0
          ∙ combine_entry L vector block b.sizes j
          ∙ ap (λ (r : List ℕ). dot 𝓕 r (column j block)) (sym (take_at vector (combine 𝓕 L vector block) k l))

    -- ---- what recoding makes

    module _ (pieces : List (List ℕ)) (numbers : List ℕ) where
      pub recode_piece : All (Piece k L) pieces → Piece k L (recode 𝓕 (k + L) pieces numbers)
      unfolding recode
      recode_piece s = record {
        size = length_combine (k + L) numbers pieces;
        bytes = combine_in (bytes_subspace 𝓕) (k + L) (zeros_bytes (k + L)) numbers pieces (all_imp (λ p h. h.bytes) s);
      }

      pub recode_truthful : All (λ p. length p ≡ k + L) pieces → Agrees 𝓕 k L pieces block → Truthful 𝓕 k L block (recode 𝓕 (k + L) pieces numbers)
      unfolding recode Truthful
      recode_truthful s a j h =
          (combine_in (told_subspace 𝓕 k L block j) (k + L) (
            inl (length-replicate (k + L) 0),
            zeros_entry (k + L) (k + j) ∙ sym (dot_empty 𝓕 (replicate (k + L) 0) (take k (column j block)) (λ c g. zeros_entry (k + L) c)),
          )
          numbers pieces (told 𝓕 k L block (all_imp (λ p e. inl e) s) a j h)).1
          ∙ sym (dot_take 𝓕 k (combine 𝓕 (k + L) numbers pieces) (column j block))
