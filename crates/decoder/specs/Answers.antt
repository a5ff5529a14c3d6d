-- The values that the decoder's entries answer, of a decoder k, L, rows and taken; and the number of a piece taken, which is 8 where it was not useful.
use Rattle.std.specs.Prelude.{◌||◌, Bool, List, [], ◌∷◌, ℕ, eqb, Result, Ok, Err}
use Rattle.answers.specs.Number.{code_of}
use Rattle.answers.specs.declared.RLNCError.{RLNCError}
use Rattle.linear.specs.Choice.{pick}
use Rattle.decoder.specs.declared.Decoder.{Decoder}
use Rattle.decoder.specs.declared.Taken.{Taken}
use Rattle.decoder.specs.declared.Taken.TheVariants.{Useful, NotUseful}
use Rattle.decoder.specs.Records.{k_of, l_of, rows_in, taken_by}

abbrev pub values_of : Decoder → List ℕ
values_of d = k_of d ∷ l_of d ∷ rows_in d ∷ taken_by d ∷ []

unfoldable pub made_values : Result Decoder RLNCError → List ℕ
made_values (Ok d) = values_of d
made_values (Err e) = []

unfoldable pub taken_number : Result Taken RLNCError → ℕ
taken_number (Ok (Useful d)) = 0
taken_number (Ok (NotUseful d)) = 8
taken_number (Err e) = code_of e

unfoldable pub taken_values : Result Taken RLNCError → List ℕ
taken_values (Ok (Useful d)) = values_of d
taken_values (Ok (NotUseful d)) = values_of d
taken_values (Err e) = []

-- how many pieces an answer of this number takes: "Taken equals the number of answers 0 and 8"
unfoldable pub takes : ℕ → ℕ
takes n = pick (eqb n 0 || eqb n 8) 1 0

-- the record that the caller goes on with: its own where the piece was refused
unfoldable pub kept : Decoder → Result Taken RLNCError → Decoder
kept d (Ok (Useful e)) = e
kept d (Ok (NotUseful e)) = e
kept d (Err e) = d

unfoldable pub complete_values : Result Bool RLNCError → List ℕ
complete_values (Ok b) = pick b 1 0 ∷ []
complete_values (Err e) = []

unfoldable pub recovered_values : Result ℕ RLNCError → List ℕ
recovered_values (Ok n) = n ∷ []
recovered_values (Err e) = []
