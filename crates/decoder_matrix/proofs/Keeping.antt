-- Rule 3 goes through the rows once: those before row j that are kept stand at the front in their order, and those from j on are as they were.
-- Assumes nothing.
use mathlib.Core.Path.{◌≡◌, sym, ap, ◌∙◌}
use mathlib.Core.Bool.{true, false}
use mathlib.Core.List.{List, [], ◌∷◌, ◌++◌, append-nil}
use Prim.Native.Nat.{ℕ, suc, ◌+◌, ◌*◌, ◌≤◌, ◌<◌}
use native.Mathlib.Nat.{add-zero, le_of_eq}
use native.Mathlib.Numerals.{add-one}
use native.Mathlib.Omega.{arith}
use lib.ListN.{length, get_or, take, drop, set}
use lib.Seq.{take_all, length-take-le, take-suc, take-suc-set, drop-set-lt, get_or-drop}
use Rattle.linear.specs.Choice.{pick}
use Rattle.linear.specs.Rows.{all_zero, drop_empty}
use Rattle.linear.specs.Buffer.{rows_of, Ruled}
use Rattle.linear.proofs.Buffer.{length_rows_of, rows_of_take}
use Rattle.linear.proofs.Drop.{drop_empty_append}
use Rattle.linear.proofs.Flat.{further}

-- one row more
module _ (k : ℕ) (rows : List (List ℕ)) (j : ℕ) (h : j < length rows) where
  one_more : drop_empty k (take (j + 1) rows) ≡ drop_empty k (take j rows) ++ pick (all_zero (take k (get_or rows j []))) [] (get_or rows j [] ∷ [])
  unfolding drop_empty
  one_more = ap (λ (i : ℕ). drop_empty k (take i rows)) (add-one j) ∙ ap (drop_empty k) (take-suc rows j [] h) ∙ drop_empty_append k (take j rows) (get_or rows j [] ∷ [])

  dropped : all_zero (take k (get_or rows j [])) ≡ true → drop_empty k (take (j + 1) rows) ≡ drop_empty k (take j rows)
  dropped e = one_more ∙ ap (λ t. drop_empty k (take j rows) ++ pick t [] (get_or rows j [] ∷ [])) e ∙ append-nil (drop_empty k (take j rows))

  kept_row : all_zero (take k (get_or rows j [])) ≡ false → drop_empty k (take (j + 1) rows) ≡ drop_empty k (take j rows) ++ (get_or rows j [] ∷ [])
  kept_row e = one_more ∙ ap (λ t. drop_empty k (take j rows) ++ pick t [] (get_or rows j [] ∷ [])) e

pub record Keeping (f n k j kept : ℕ) (old now : List ℕ) : Type 0 where
  pub few : kept ≤ j
  pub front : take kept (rows_of f n now) ≡ drop_empty k (take j (rows_of f n old))
  pub later : drop j (rows_of f n now) ≡ drop j (rows_of f n old)
  pub rest : drop (n * f) now ≡ drop (n * f) old

-- a turn of the loop
module _ {f n k j kept : ℕ} {old now : List ℕ} (t : Keeping f n k j kept old now) (h : j < n) where
  abbrev rows₀ : List (List ℕ)
  rows₀ = rows_of f n old

  below : j < length rows₀
  below = rw length_rows_of h

  pub found_row : get_or (rows_of f n now) j [] ≡ get_or rows₀ j []
  found_row =
      let e : get_or (rows_of f n now) (j + 0) [] ≡ get_or rows₀ (j + 0) [] =
      sym (get_or-drop j (rows_of f n now) 0 []) ∙ ap (λ (l : List (List ℕ)). get_or l 0 []) t.later ∙ get_or-drop j rows₀ 0 [] in
      rw add-zero at e

  pub turn_drops : all_zero (take k (get_or rows₀ j [])) ≡ true → Keeping f n k (j + 1) kept old now
  turn_drops e = record {
    few = omega (arith, t.few);
    front = t.front ∙ sym (dropped k rows₀ j below e);
    later = further j (j + 1) (rows_of f n now) rows₀ (omega arith) t.later;
    rest = t.rest;
  }

  pub turn_keeps : {new : List ℕ} → all_zero (take k (get_or rows₀ j [])) ≡ false → Ruled f n now new (set (rows_of f n now) kept (get_or (rows_of f n now) j []))
      → Keeping f n k (j + 1) (kept + 1) old new
  turn_keeps {new} e u =
      let inside : kept < length (rows_of f n now) = rw length_rows_of (omega (arith, t.few)) in
      let r : List ℕ = get_or (rows_of f n now) j [] in
      record {
        few = omega (arith, t.few);
        front =
            ap (λ (i : ℕ). take i (rows_of f n new)) (add-one kept) ∙ ap (take (suc kept)) u.rows ∙ take-suc-set (rows_of f n now) kept r inside
            ∙ (λ i. t.front i ++ (found_row i ∷ [])) ∙ sym (kept_row k rows₀ j below e);
        later = ap (drop (j + 1)) u.rows ∙ drop-set-lt (j + 1) (rows_of f n now) kept r (omega (arith, t.few)) ∙ further j (j + 1) (rows_of f n now) rows₀ (omega arith) t.later;
        rest = u.rest ∙ t.rest;
      }

-- after the last row
pub all_kept : (f n k kept : ℕ) (old now : List ℕ) → Keeping f n k n kept old now
    → (rows_of f kept now ≡ drop_empty k (rows_of f n old)) × (length (drop_empty k (rows_of f n old)) ≡ kept)
all_kept f n k kept old now t =
    let all : take n (rows_of f n old) ≡ rows_of f n old = take_all n (rows_of f n old) (le_of_eq (length_rows_of f n old)) in
    let e : take kept (rows_of f n now) ≡ drop_empty k (rows_of f n old) = t.front ∙ ap (drop_empty k) all in
    let short : kept ≤ length (rows_of f n now) = rw length_rows_of t.few in
    (sym (rows_of_take f n kept now t.few) ∙ e, sym (ap length e) ∙ length-take-le kept (rows_of f n now) short)
