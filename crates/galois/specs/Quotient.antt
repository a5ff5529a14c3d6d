-- What an inverse and a quotient answer, over any product and any inverse of nonzero bytes. The paper's table has no number for them:
-- an answer's values are its byte, or nothing.
use Rattle.std.specs.Prelude.{List, [], ◌∷◌, ℕ, zero, suc, Option, None, Some}

unfoldable pub values_of : Option ℕ → List ℕ
values_of None = []
values_of (Some b) = b ∷ []

-- zero has no inverse
unfoldable pub inverse_of : (ℕ → ℕ) → ℕ → Option ℕ
inverse_of inv zero = None
inverse_of inv (suc a) = Some (inv (suc a))

-- division by zero has no answer
unfoldable pub quotient_of : (ℕ → ℕ → ℕ) → (ℕ → ℕ) → ℕ → ℕ → Option ℕ
quotient_of mul inv a zero = None
quotient_of mul inv a (suc b) = Some (mul a (inv (suc b)))
