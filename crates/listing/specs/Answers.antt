-- The values that the listing's entries answer. Of a step they are the pieces read, the repeats, and how many bytes were printed; of an end the bytes
-- of data and those printed.
use Rattle.std.specs.Prelude.{List, [], ◌∷◌, ℕ, Option, None, Some, Result, Ok, Err}
use Rattle.answers.specs.declared.RLNCError.{RLNCError}
use Rattle.listing.specs.declared.join.Step.{Step}
use Rattle.listing.specs.declared.join.End.{End}

unfoldable pub put_values : Result ℕ RLNCError → List ℕ
put_values (Ok n) = n ∷ []
put_values (Err e) = []

unfoldable pub step_values : Result Step RLNCError → List ℕ
step_values (Ok s) = s.joining.pieces ∷ s.joining.repeats ∷ s.size ∷ []
step_values (Err e) = []

abbrev pub data_value : Option ℕ → ℕ
data_value (Some n) = n
data_value None = 0

unfoldable pub end_values : Result End RLNCError → List ℕ
end_values (Ok e) = data_value e.«data» ∷ e.size ∷ []
end_values (Err e) = []
