-- "Counts are asked of the record alone and answer 22 for its bad numbers."
use Rattle.std.specs.Prelude.{Bool, List, [], ◌∷◌, ℕ, Result, Ok, Err}
use Rattle.answers.specs.declared.RLNCError.{RLNCError}
use Rattle.answers.specs.declared.RLNCError.TheVariants.{BadState}
use Rattle.linear.specs.Choice.{pick}

-- the number, where the record's numbers are good
unfoldable pub counted : Bool → ℕ → Result ℕ RLNCError
counted good n = pick good (Ok n) (Err BadState)

-- the values of an answer
unfoldable pub count_values : Result ℕ RLNCError → List ℕ
count_values (Ok n) = n ∷ []
count_values (Err e) = []
