-- The entries of two tables of a field, for a byte g whose powers are all the nonzero bytes, from the paper's section on the field.
use Rattle.std.specs.Prelude.{◌≡◌, ℕ, ◌%◌, ◌<◌}
use Rattle.galois.specs.Gf.{pow}

-- "entry i of the latter is 3 to the power i mod 255" (g for 3)
unfoldable pub exp_entry : ℕ → ℕ → ℕ → ℕ
exp_entry p g i = pow p g (i % 255)

-- "For a nonzero byte, the log entry is the power below 255. The log entry of 0 is 0 and means nothing."
pub record LogEntry (p g a l : ℕ) : Type 0 where
  pub below : l < 255
  pub power : 0 < a → pow p g l ≡ a
  pub none : a ≡ 0 → l ≡ 0
