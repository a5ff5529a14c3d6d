-- The row rules are an engine: they make sums and multiples of the rows and the piece, which can be undone, and k rows that they leave are the
-- identity's. So demand 3 holds of them.
-- Assumes nothing.
use mathlib.Core.Path.{◌≡◌}
use mathlib.Core.Logic.{◌≢◌, inl, ◌↔◌}
use mathlib.Core.List.{List, [], ◌∷◌, ◌++◌, map}
use Prim.Native.Nat.{ℕ, ◌+◌, ◌≤◌, ◌<◌}
use native.Mathlib.Omega.{arith}
use lib.ListN.{length, drop, length-append}
use Rattle.galois.specs.FieldLaws.{FieldLaws}
use Rattle.linear.specs.All.{All, none, more, Bytes}
use Rattle.linear.specs.Rows.{take_piece}
use Rattle.linear.specs.Pieces.{Piece}
use Rattle.linear.specs.Blocks.{Block, Agrees, Unique}
use Rattle.linear.specs.Engine.{Subspace, Fits, Empty, Identity, Taken, Engine}
use Rattle.linear.proofs.All.{all_head, all_append, all_append_left, all_append_right}
use Rattle.linear.proofs.Steps.{reduce_le}
use Rattle.linear.proofs.Subspace.{bytes_subspace, reduce_in, reduce_out}
use Rattle.linear.proofs.Diagonal.{reduce_identity}
use Rattle.linear.proofs.Linear.{fits_subspace}
use Rattle.linear.proofs.Engine.{step_agrees, step_agreed, complete_unique, recovered}

-- what the row rules know of their rows
pub record HeldRows (k L : ℕ) (rows : List (List ℕ)) : Type 0 where
  pub bytes : All Bytes rows
  pub fits : All (Fits (k + L)) rows
  pub count : length rows ≤ k
  pub full : length rows ≡ k → Identity k rows

module _ (𝓕 : FieldLaws) (k L : ℕ) where
  module _ (rows : List (List ℕ)) (piece : List ℕ) (h : HeldRows k L rows) (p : Piece k L piece) where
    abbrev given : List (List ℕ)
    given = rows ++ (piece ∷ [])

    more_bytes : All Bytes given
    more_bytes = all_append h.bytes (more p.bytes none)

    more_fits : All (Fits (k + L)) given
    more_fits = all_append h.fits (more (inl p.size) none)

    held_step : length rows ≢ k → HeldRows k L (take_piece 𝓕 k rows piece)
    unfolding take_piece
    held_step n =
        let l : length given ≤ k = omega (arith, length-append rows (piece ∷ []), h.count) in
        record {
          bytes = reduce_in 𝓕 (bytes_subspace 𝓕) k given more_bytes;
          fits = reduce_in 𝓕 (fits_subspace 𝓕 (k + L)) k given more_fits;
          count = omega (arith, reduce_le 𝓕 k given);
          full = reduce_identity 𝓕 k given more_bytes l;
        }

    back : {P : List ℕ → Type 0} → Subspace 𝓕 P → ((r : List ℕ) → Fits (k + L) r → Empty k r → P r)
        → All P (take_piece 𝓕 k rows piece) → P piece × All P rows
    unfolding take_piece
    back {P} 𝓢 f g =
        let w : All P given = reduce_out 𝓕 𝓢 (fits_subspace 𝓕 (k + L)) k f given more_bytes more_fits g in
        (all_head (all_append_right rows (piece ∷ []) w), all_append_left rows (piece ∷ []) w)

  pub row_rules_engine : Engine 𝓕 k L (take_piece 𝓕 k) (HeldRows k L)
  unfolding take_piece
  row_rules_engine = record {
    held_fresh = record {
      bytes = none;
      fits = none;
      count = omega arith;
      full = λ e. record { off = λ r c h n. absurd (omega arith); on = λ c h. absurd (omega arith) };
    };
    held_step = λ rows piece h n p. held_step rows piece h p n;
    count = λ rows h. h.count;
    full = λ rows h. h.full;
    into = λ 𝓢 rows piece h g a p. reduce_in 𝓕 𝓢 k (rows ++ (piece ∷ [])) (all_append a (more p none));
    back = λ 𝓢 f rows piece h p g. back rows piece h p 𝓢 f g;
  }

  -- a piece taken, and the rows before it, agree with the blocks that the rows after it agree with, if with one
  module _ (rows : List (List ℕ)) (piece : List ℕ) (h : HeldRows k L rows) (p : Piece k L piece)
      (block : List (List ℕ)) (a : Agrees 𝓕 k L (piece ∷ rows) block) where
    pub take_piece_agrees : Agrees 𝓕 k L (take_piece 𝓕 k rows piece) block
    take_piece_agrees = step_agrees 𝓕 row_rules_engine rows piece h h.fits p block a

    pub take_piece_agreed : (other : List (List ℕ)) → Agrees 𝓕 k L (take_piece 𝓕 k rows piece) other → Agrees 𝓕 k L (piece ∷ rows) other
    take_piece_agreed other o = step_agreed 𝓕 row_rules_engine rows piece h h.fits p block other a o

  module _ (pieces rows : List (List ℕ)) (t : Taken (take_piece 𝓕 k) k L pieces rows)
      (block : List (List ℕ)) (b : Block k L block) (a : Agrees 𝓕 k L pieces block) where
    -- "complete exactly when no other block of that size agrees with all pieces taken"
    pub demand_3 : 0 < L → (length rows ≡ k) ↔ Unique 𝓕 k L pieces block
    demand_3 l = complete_unique 𝓕 row_rules_engine t block b a l

    -- recovery reads the payload of each row
    pub demand_3_recovery : length rows ≡ k → map (drop k) rows ≡ block
    demand_3_recovery e = recovered 𝓕 row_rules_engine t block b a e
