-- What the padding of a block tells, computed: the last marker, then what stands before and behind it. That this is the rule of `Padding`, and
-- the reason the true one, is proved (proofs/Reading).
use Rattle.std.specs.Prelude.{List, [], ◌∷◌, ℕ, suc, eqb, drop, Option, None, Some, Result, Ok, Err}
use Rattle.answers.specs.Number.{Answer}
use Rattle.answers.specs.declared.RLNCError.TheVariants.{InvalidDecodedDataFormat}
use Rattle.linear.specs.Choice.{pick, if_zero}
use Rattle.linear.specs.Rows.{all_zero}
use Rattle.block.specs.declared.BrokenPadding.{BrokenPadding}
use Rattle.block.specs.declared.BrokenPadding.TheVariants.{MarkerAbsent, MarkerFirst, TailNotZero}

-- the later of two places, the first counted from 0 and the other from 1
abbrev pub later : Option ℕ → Option ℕ → Option ℕ
later here None = here
later here (Some i) = Some (suc i)

-- the index of the last M
unfoldable pub last_marker : ℕ → List ℕ → Option ℕ
last_marker M [] = None
last_marker M (x ∷ xs) = later (pick (eqb x M) (Some 0) None) (last_marker M xs)

unfoldable pub read_at : List ℕ → Option ℕ → Result ℕ BrokenPadding
read_at block None = (Err MarkerAbsent)
read_at block (Some i) = if_zero i (Err MarkerFirst) (pick (all_zero (drop (suc i) block)) (Ok i) (Err TailNotZero))

unfoldable pub reading : ℕ → List ℕ → Result ℕ BrokenPadding
reading M block = read_at block (last_marker M block)

-- recovery answers 11 for all three
unfoldable pub answer_of : Result ℕ BrokenPadding → Answer
answer_of (Ok n) = Ok tt
answer_of (Err e) = Err InvalidDecodedDataFormat

-- and how many bytes it writes
unfoldable pub data_length : Result ℕ BrokenPadding → ℕ
data_length (Ok n) = n
data_length (Err e) = 0
