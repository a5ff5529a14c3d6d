-- The last marker, by what a search of the bytes from the last one up has found, and by what is behind a place.
-- Assumes nothing.
use mathlib.Core.Path.{◌≡◌, sym, ap, ◌∙◌}
use mathlib.Core.Logic.{◌≢◌}
use mathlib.Core.List.{List}
use Prim.Native.Nat.{ℕ, ◌+◌, ◌≤◌, ◌<◌}
use native.Mathlib.Omega.{arith}
use lib.ListN.{length, get_or, take, drop, take-append-drop}
use lib.Seq.{length-take-le}
use Rattle.std.specs.Prelude.{Option, None, Some, MatchOption}
use Rattle.block.specs.Reading.{last_marker}
use Rattle.block.proofs.LastMarker.{Found, at, found, last_at, last_nowhere, behind, last_append}

module _ (M : ℕ) (xs : List ℕ) where
  -- the last marker of what is behind the first i
  pub from : (i j : ℕ) → i ≤ length xs → last_marker M (drop i xs) ≡ Some j → last_marker M xs ≡ Some (i + j)
  from i j h e =
      ap (last_marker M) (sym (take-append-drop i xs)) ∙ last_append M (take i xs) (drop i xs)
      ∙ ap (behind (length (take i xs)) (last_marker M (take i xs))) e ∙ ap (λ (n : ℕ). Some (n + j)) (length-take-le i xs h)

  pub index_in : (i : ℕ) → last_marker M xs ≡ Some i → i < length xs
  index_in i e = go (last_marker M xs) (found M xs) e
    where
      go : (o : Option ℕ) → Found M xs o → o ≡ Some i → i < length xs
      go None f e = cc
      go (Some j) (at l) e = let z : j ≡ i = cc in omega (arith, l.inside)

  -- what a search by bytes has found
  pub searched : (r : Option ℕ) → MatchOption r ((j : ℕ) → j < length xs → get_or xs j 0 ≢ M)
      (λ i. (i < length xs) × (get_or xs i 0 ≡ M) × ((j : ℕ) → i < j → j < length xs → get_or xs j 0 ≢ M)) → r ≡ last_marker M xs
  searched None n = sym (last_nowhere xs n)
  searched (Some i) l = sym (last_at (record { inside = l.0; here = l.1; last = l.2 }))
