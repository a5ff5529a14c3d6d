-- What making an encoder answers, and its values, the piece count and the piece length.
use Rattle.std.specs.Prelude.{List, [], ◌∷◌, ℕ, Result, Ok, Err}
use Rattle.answers.specs.Number.{Answer}
use Rattle.answers.specs.declared.RLNCError.{RLNCError}
use Rattle.block.specs.Refusal.{answered}
use Rattle.encoder.specs.declared.Encoder.{Encoder}

unfoldable pub made_values : Result Encoder RLNCError → List ℕ
made_values (Ok e) = e.piece_count ∷ e.piece_byte_len ∷ []
made_values (Err e) = []

-- the encoder of k pieces of L bytes, unless it is refused
unfoldable pub made : Answer → ℕ → ℕ → Result Encoder RLNCError
made refusal k L = answered refusal (record { piece_count = k; piece_byte_len = L })
