-- What an entry that hands an answer out as its number gives: the number of the answer, and the outcome that has this answer.
use Rattle.std.specs.Prelude.{◌≡◌, ℕ}
use Rattle.answers.specs.Number.{Answer, number_of}

pub record Numbered (Outcome : Answer → Type 0) (answer : Answer) (r : ℕ) : Type 0 where
  pub number : r ≡ number_of answer
  pub outcome : Outcome answer
