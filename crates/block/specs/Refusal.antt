-- A refusal is one answer and changes nothing: the definitions of the entries choose by it. An order of refusals is a chain of `pick`s that ends
-- with Ok.
use Rattle.std.specs.Prelude.{Result, Ok, Err}
use Rattle.answers.specs.Number.{Answer}
use Rattle.answers.specs.declared.RLNCError.{RLNCError}

-- the first where the answer is Ok, else the second
abbrev pub if_ok {ℓ} : {A : Type ℓ} → Answer → A → A → A
if_ok (Ok z) x y = x
if_ok (Err e) x y = y

-- the value where the answer is Ok, else its error
abbrev pub answered : {A : Type 0} → Answer → A → Result A RLNCError
answered (Ok z) x = Ok x
answered (Err e) x = Err e
