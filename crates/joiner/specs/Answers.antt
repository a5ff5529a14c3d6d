-- The values that a turn answers: how many bytes of text there are of what came first and of what follows.
use Rattle.std.specs.Prelude.{List, [], ◌∷◌, ℕ, Result, Ok, Err}
use Rattle.answers.specs.declared.RLNCError.{RLNCError}
use Rattle.joiner.specs.declared.Fed.{Fed}

unfoldable pub fed_values : Result Fed RLNCError → List ℕ
fed_values (Ok f) = f.first ∷ f.later ∷ []
fed_values (Err e) = []
