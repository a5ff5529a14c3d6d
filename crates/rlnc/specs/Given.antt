-- A result handed out in two parts: its number, or whether there is one, and what then stands where its value goes. That keeps what stood there
-- where there is no value.
use Rattle.std.specs.Prelude.{◌≡◌, Bool, ℕ, Option, is_some, unwrap_or, Result}
use Rattle.std.specs.Result.{result_unwrap_or}
use Rattle.answers.specs.Number.{number_of}
use Rattle.answers.specs.declared.RLNCError.{RLNCError}

-- the paper's table has no number for an inverse or a quotient: there is a byte, or there is none
pub record QuotientGiven (q : Option ℕ) (before : ℕ) (r : Bool) (after : ℕ) : Type 0 where
  pub told : r ≡ is_some q
  pub stored : after ≡ unwrap_or q before

pub record Given {A : Type 0} (c : Result A RLNCError) (before : A) (r : ℕ) (after : A) : Type 0 where
  pub number : r ≡ number_of c
  pub stored : after ≡ result_unwrap_or c before

abbrev pub CountGiven : Result ℕ RLNCError → ℕ → ℕ → ℕ → Type 0
CountGiven = Given

abbrev pub CompleteGiven : Result Bool RLNCError → Bool → ℕ → Bool → Type 0
CompleteGiven = Given
