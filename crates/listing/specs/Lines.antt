-- The lines that `setjoin` prints. Each ends with a line feed.
use Rattle.std.specs.Prelude.{List, [], ◌∷◌, ◌++◌, ℕ}
use Rattle.listing.specs.Text.{decimal, hex}

-- "n answer rows taken"
abbrev pub header_line : List ℕ
header_line = 110 ∷ 32 ∷ 97 ∷ 110 ∷ 115 ∷ 119 ∷ 101 ∷ 114 ∷ 32 ∷ 114 ∷ 111 ∷ 119 ∷ 115 ∷ 32 ∷ 116 ∷ 97 ∷ 107 ∷ 101 ∷ 110 ∷ 10 ∷ []

-- "a line a piece: ordinal, answer, rows and taken after it"
unfoldable pub piece_line : ℕ → ℕ → ℕ → ℕ → List ℕ
piece_line n answer rows taken = decimal n ++ (32 ∷ (decimal answer ++ (32 ∷ (decimal rows ++ (32 ∷ (decimal taken ++ (10 ∷ [])))))))

-- "`end`, recovery's answer, length (0 if refused), repeats"
unfoldable pub end_line : ℕ → ℕ → ℕ → List ℕ
end_line answer size repeats = 101 ∷ 110 ∷ 100 ∷ 32 ∷ (decimal answer ++ (32 ∷ (decimal size ++ (32 ∷ (decimal repeats ++ (10 ∷ []))))))

-- "`stop`, the number, and the record's byte offset"
unfoldable pub stop_line : ℕ → ℕ → List ℕ
stop_line number at = 115 ∷ 116 ∷ 111 ∷ 112 ∷ 32 ∷ (decimal number ++ (32 ∷ (decimal at ++ (10 ∷ []))))

-- "the data in lower-case hex"
unfoldable pub data_line : List ℕ → List ℕ
data_line bytes = hex bytes ++ (10 ∷ [])
