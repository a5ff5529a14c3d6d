-- The rows whose number has a bit, by their starts in the buffer.
use Rattle.std.specs.Prelude.{◌≡◌, List, [], ◌∷◌, ℕ, ◌+◌, ◌*◌, ◌/◌, ◌%◌, ◌^◌, ◌≤◌, ◌<◌, length, get_or, drop}
use Rattle.galois.specs.Gf.{◌⊕◌}

-- byte i of the rows at the starts, added up
unfoldable pub sum_at : List ℕ → List ℕ → ℕ → ℕ
sum_at rows [] i = 0
sum_at rows (s ∷ starts) i = get_or rows (s + i) 0 ⊕ sum_at rows starts i

-- byte i of the rows of `width` bytes, each times the bit of its number, added up
unfoldable pub sum_chosen : ℕ → ℕ → List ℕ → List ℕ → ℕ → ℕ
sum_chosen bit width [] rows i = 0
sum_chosen bit width (c ∷ numbers) rows i =
    c / 2 ^ bit % 2 * get_or rows i 0 ⊕ sum_chosen bit width numbers (drop width rows) i

-- the starts are of rows that have a number; whatever the rows hold, they add up to those whose number has the bit
pub record Collected (bit width : ℕ) (numbers starts : List ℕ) : Type 0 where
  pub few : length starts ≤ length numbers
  pub within : (k : ℕ) → k < length starts → get_or starts k 0 + width ≤ length numbers * width
  pub sums : (rows : List ℕ) (i : ℕ) → sum_at rows starts i ≡ sum_chosen bit width numbers rows i
