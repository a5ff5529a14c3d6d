-- Rows of one width stay of that width under the rules: a step makes rows as long as those it is given, or none, and no row that is none is
-- kept.
-- Assumes nothing.
use mathlib.Core.Path.{◌≡◌, ap}
use mathlib.Core.Logic.{inl, inr}
use mathlib.Core.List.{List, [], ◌∷◌, ◌++◌}
use Prim.Native.Nat.{ℕ}
use lib.ListN.{length, get_or}
use Rattle.galois.specs.FieldLaws.{FieldLaws}
use Rattle.linear.specs.All.{All, none, more}
use Rattle.linear.specs.Rows.{drop_empty, reduce, take_piece}
use Rattle.linear.specs.Engine.{Fits, Empty}
use Rattle.linear.proofs.All.{all_imp, all_both, all_append}
use Rattle.linear.proofs.Drop.{drop_empty_cases}
use Rattle.linear.proofs.Subspace.{reduce_in}
use Rattle.linear.proofs.Linear.{fits_subspace}

-- no row that is kept is empty
kept : (k : ℕ) (rows : List (List ℕ)) → All (λ r. ¬ Empty k r) (drop_empty k rows)
unfolding drop_empty
kept k [] = none
kept k (r ∷ rs) = drop_empty_cases (All (λ r. ¬ Empty k r)) k r rs (λ e. kept k rs) (λ n. more n (kept k rs))

whole : (k w : ℕ) (r : List ℕ) → Fits w r → ¬ Empty k r → length r ≡ w
whole k w r (inl e) n = e
whole k w r (inr e) n = absurd (n (λ c h. ap (λ (l : List ℕ). get_or l c 0) e))

module _ (𝓕 : FieldLaws) (k w : ℕ) where
  pub reduce_sizes : (rows : List (List ℕ)) → All (λ r. length r ≡ w) rows → All (λ r. length r ≡ w) (reduce 𝓕 k rows)
  unfolding reduce
  reduce_sizes rows h =
      all_imp (λ r g. whole k w r g.0 g.1) (all_both (reduce_in 𝓕 (fits_subspace 𝓕 w) k rows (all_imp (λ r e. inl e) h)) (kept k _))

  pub take_piece_sizes : (rows : List (List ℕ)) (piece : List ℕ) → All (λ r. length r ≡ w) rows → length piece ≡ w → All (λ r. length r ≡ w) (take_piece 𝓕 k rows piece)
  unfolding take_piece
  take_piece_sizes rows piece h e = reduce_sizes (rows ++ (piece ∷ [])) (all_append h (more e none))
