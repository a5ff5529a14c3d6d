-- The search for a pivot goes through the rows from i on in their order, so that it answers a row with a nonzero entry in column i, or there is
-- none.
-- Assumes nothing.
use mathlib.Core.Path.{◌≡◌, refl, sym, ap, ◌∙◌}
use mathlib.Core.Logic.{◌≢◌}
use mathlib.Core.List.{List, [], ◌∷◌}
use mathlib.Core.Option.{Option, none, some}
use Prim.Native.Nat.{ℕ, zero, suc, ◌+◌, ◌-◌, ◌≤◌, ◌<◌}
use native.Mathlib.Nat.{suc-ne-zero}
use native.Mathlib.Omega.{arith}
use lib.ListN.{length, get_or, drop, length-drop}
use lib.Seq.{get_or-drop}
use Rattle.linear.specs.Choice.{if_zero}
use Rattle.linear.specs.Rows.{entry, first_nonzero, pivot_from}

abbrev First : ℕ → ℕ → List (List ℕ) → Option ℕ → Type 0
First col at rs none = (t : ℕ) → entry rs t col ≡ 0
First col at rs (some j) = (t : ℕ) × (j ≡ at + t) × (t < length rs) × (entry rs t col ≢ 0)

first_step : (col at : ℕ) (r : List ℕ) (rs : List (List ℕ)) (o : Option ℕ) → get_or r col 0 ≡ 0 → First col (suc at) rs o → First col at (r ∷ rs) o
unfolding entry
first_step col at r rs none e h = elim [ zero ↦ e | suc t ↦ h t ]
first_step col at r rs (some j) e h = (suc h.0, h.1 ∙ omega arith, omega arith, h.3)

first_spec : (col at : ℕ) (rs : List (List ℕ)) → First col at rs (first_nonzero col at rs)
unfolding first_nonzero entry
first_spec col at [] = λ t. refl
first_spec col at (r ∷ rs) = go (get_or r col 0) refl (first_spec col (suc at) rs)
  where
    go : (x : ℕ) → get_or r col 0 ≡ x → First col (suc at) rs (first_nonzero col (suc at) rs)
        → First col at (r ∷ rs) (if_zero x (first_nonzero col (suc at) rs) (some at))
    go zero e h = first_step col at r rs (first_nonzero col (suc at) rs) e h
    go (suc x) e h = (0, omega arith, omega arith, λ z. suc-ne-zero x (sym e ∙ z))

-- what the search from i on may answer
abbrev pub Pivot : ℕ → List (List ℕ) → Option ℕ → Type 0
Pivot i rows none = (r : ℕ) → i ≤ r → entry rows r i ≡ 0
Pivot i rows (some j) = (i ≤ j) × (j < length rows) × (entry rows j i ≢ 0)

entry_drop : (i : ℕ) (rows : List (List ℕ)) (t c : ℕ) → entry (drop i rows) t c ≡ entry rows (i + t) c
unfolding entry
entry_drop i rows t c = ap (λ (row : List ℕ). get_or row c 0) (get_or-drop i rows t [])

pub pivot_spec : (i : ℕ) (rows : List (List ℕ)) → Pivot i rows (pivot_from i rows)
unfolding pivot_from
pivot_spec i rows = go (first_nonzero i i (drop i rows)) (first_spec i i (drop i rows))
  where
    go : (o : Option ℕ) → First i i (drop i rows) o → Pivot i rows o
    go none h = λ r l. ap (λ (n : ℕ). entry rows n i) (omega arith) ∙ sym (entry_drop i rows (r - i) i) ∙ h (r - i)
    go (some j) h =
        (omega arith, omega (arith, length-drop i rows), λ e. h.3 (entry_drop i rows h.0 i ∙ ap (λ (n : ℕ). entry rows n i) (sym h.1) ∙ e))

-- an entry that is not zero is in range
pub nonzero_row : (rows : List (List ℕ)) (r c : ℕ) → entry rows r c ≢ 0 → r < length rows
unfolding entry
nonzero_row [] r c h = absurd (h refl)
nonzero_row (x ∷ xs) zero c h = omega arith
nonzero_row (x ∷ xs) (suc r) c h = omega (arith, nonzero_row xs r c h)
