-- Text put into a lent buffer.
use Rattle.std.specs.Prelude.{◌≡◌, List, ◌++◌, ℕ, ltb, length, drop, Result, Ok, Err}
use Rattle.answers.specs.declared.RLNCError.{RLNCError}
use Rattle.answers.specs.declared.RLNCError.TheVariants.{NoRoom}
use Rattle.linear.specs.Choice.{pick}

-- a line at the front of a buffer, the bytes behind it as they were: 21 and no change where the buffer is shorter
pub record Lined (line out : List ℕ) (r : Result ℕ RLNCError) (last : List ℕ) : Type 0 where
  pub result : r ≡ pick (ltb (length out) (length line)) (Err NoRoom) (Ok (length line))
  pub left : last ≡ pick (ltb (length out) (length line)) out (line ++ drop (length line) out)
