-- Parts of one buffer.
use Rattle.std.specs.Prelude.{Bool, ◌&&◌, ◌||◌, List, ◌++◌, ℕ, ◌+◌, leb, take, drop}
use Rattle.rows.specs.declared.Parts.{Parts}

-- the n bytes from `at` on
abbrev pub part_at : ℕ → ℕ → List ℕ → List ℕ
part_at at n buffer = take n (drop at buffer)

-- the buffer with a part in place of the n bytes from `at` on
abbrev pub put_part : ℕ → ℕ → List ℕ → List ℕ → List ℕ
put_part at n part buffer = take at buffer ++ (part ++ drop n (drop at buffer))

-- both parts lie in a buffer of n bytes, and share none of them
abbrev pub lie_apart : Parts → ℕ → Bool
lie_apart p n =
    leb (p.from + p.len) n && (leb (p.to + p.len) n && (leb (p.from + p.len) p.to || leb (p.to + p.len) p.from))
