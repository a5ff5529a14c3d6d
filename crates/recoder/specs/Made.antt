-- What making a recoder answers, and its values, the pieces to recode, their length and their coefficients.
use Rattle.std.specs.Prelude.{List, [], ◌∷◌, ℕ, Result, Ok, Err}
use Rattle.answers.specs.Number.{Answer}
use Rattle.answers.specs.declared.RLNCError.{RLNCError}
use Rattle.block.specs.Refusal.{answered}
use Rattle.recoder.specs.declared.Recoder.{Recoder}

unfoldable pub made_values : Result Recoder RLNCError → List ℕ
made_values (Ok d) = d.num_pieces_received ∷ d.full_coded_piece_byte_len ∷ d.num_pieces_coded_together ∷ []
made_values (Err e) = []

-- the recoder of m pieces of `width` bytes with k coefficients, unless it is refused
unfoldable pub made : Answer → ℕ → ℕ → ℕ → Result Recoder RLNCError
made refusal m width k =
    answered refusal (record { num_pieces_received = m; full_coded_piece_byte_len = width; num_pieces_coded_together = k })
