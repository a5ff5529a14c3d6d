-- The decoder's record and its lent matrix: k rows of F bytes, of which the first are held.
use Rattle.std.specs.Prelude.{Bool, ◌&&◌, ◌||◌, not, List, ℕ, ◌+◌, ◌*◌, leb, ltb}
use Rattle.linear.specs.Buffer.{rows_of}
use Rattle.block.specs.Sizes.{sized}
use Rattle.decoder.specs.declared.Decoder.{Decoder}

-- k, L, F = k + L, the row count and the taken count
abbrev pub k_of : Decoder → ℕ
k_of d = d.required_piece_count

abbrev pub l_of : Decoder → ℕ
l_of d = d.piece_byte_len

abbrev pub f_of : Decoder → ℕ
f_of d = k_of d + l_of d

abbrev pub rows_in : Decoder → ℕ
rows_in d = d.useful_piece_count.0

abbrev pub taken_by : Decoder → ℕ
taken_by d = d.received_piece_count.0

-- "TooManyTaken: 65,535 pieces were taken already"
abbrev pub taken_limit : ℕ
taken_limit = 65535

-- the numbers of a record are good: sizes within the limits; not "rows > k, rows > taken, or taken > 65,535"
unfoldable pub sound : Decoder → Bool
sound d = sized (k_of d) (l_of d) && (leb (rows_in d) (k_of d) && (leb (rows_in d) (taken_by d) && leb (taken_by d) taken_limit))

-- 22: bad numbers, "or a lent buffer shorter than the record needs"
unfoldable pub bad_state : Decoder → ℕ → Bool
bad_state d room = not (sound d) || ltb room (k_of d * f_of d)

-- the rows held
unfoldable pub held_rows : Decoder → List ℕ → List (List ℕ)
held_rows d elements = rows_of (f_of d) (rows_in d) elements
