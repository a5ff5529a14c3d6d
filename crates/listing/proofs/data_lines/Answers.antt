-- `listing::data_lines` meets its contract: the line of the data stands behind the end line, and both have room.
use Rattle.std.proofs.Common.{◌≡◌, ℕ, ◌+◌, ◌-◌, ◌≤◌, List, arith, length, take, drop, length-append, length-drop, length-take}
use Rattle.std.specs.Prelude.{Result, Ok}
use Rattle.answers.specs.declared.RLNCError.{RLNCError}
use Rattle.listing.specs.Puts.{Lined}
use Rattle.listing.proofs.Counting.{put_text, put_size, put_whole}
use Rattle.listing.proofs.Short.{end_short}
use Rattle.listing.proofs.Hex.{length_data_line}
use Rattle.listing.proofs.data_lines.Goals as goal

-- what stands behind a line has room for n bytes more
behind : {line out last : List ℕ} {r : Result ℕ RLNCError} {end : ℕ} (n : ℕ) → Lined line out r last → length line + n ≤ length out → r ≡ Ok end
    → n ≤ length (take (length last - end) (drop end last))
behind n l h e = simp (length-take, length-drop, put_text l (omega arith), put_size l (omega arith) _ e, length-append) (omega arith)

pub returns-in_err-size : goal.returns-in_err-size
returns-in_err-size c =
    let a = c.args in
    absurd (put_whole c.data_line.ensures (behind _ c.end_line.ensures (omega (arith, c.requires, end_short 0 (length a.«data».now) a.repeats, length_data_line a.«data».now)) c.in_ok-end.was) _ c.in_err-size.was)
