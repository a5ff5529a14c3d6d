-- Text put at the front of a buffer, and more text behind it.
-- Assumes nothing.
use mathlib.Core.Path.{◌≡◌, ap, ◌∙◌}
use mathlib.Core.List.{List, ◌++◌, append_assoc, append-nil}
use Prim.Native.Nat.{ℕ, ◌+◌, ◌-◌, ◌≤◌}
use native.Mathlib.Omega.{arith}
use borrow.Rule.Slice.PartMut.{put_mid}
use lib.ListN.{length, take, drop, length-append, drop_of_length-le}
use lib.Seq.{take_all, take-append_seam, drop-append_seam, drop-drop}
use Rattle.std.specs.Prelude.{Result, Ok}
use Rattle.answers.specs.declared.RLNCError.{RLNCError}
use Rattle.listing.specs.Puts.{Lined}
use Rattle.listing.proofs.Counting.{put_text, put_size}
use Rattle.joiner.specs.Machine.{over}
use Rattle.joiner.specs.Parts.{Front}

pub lined_front : {first out mid : List ℕ} {r : Result ℕ RLNCError} → Lined first out r mid → length first ≤ length out → (n : ℕ) → r ≡ Ok n → Front first out n mid
lined_front l h n e = record { counts = put_size l h n e; puts = put_text l h }

module _ {first out mid : List ℕ} {n : ℕ} (f : Front first out n mid) where
  left_over : drop n mid ≡ drop (length first) out
  left_over = (λ i. drop (f.counts i) (f.puts i)) ∙ drop-append_seam first (drop (length first) out)

  long : length mid ≡ length first + length (drop (length first) out)
  long = ap length f.puts ∙ length-append first (drop (length first) out)

  part_is : take (length mid - n) (drop n mid) ≡ drop (length first) out
  part_is = ap (take (length mid - n)) left_over ∙ take_all (length mid - n) (drop (length first) out) (omega (arith, f.counts, long))

  -- the room that is left
  pub room_behind : length (take (length mid - n) (drop n mid)) + n ≡ length mid
  room_behind = omega (arith, ap length part_is, long, f.counts)

  -- text behind it makes one text
  pub behind : (text : List ℕ) {last : List ℕ} → last ≡ over text (take (length mid - n) (drop n mid)) → put_mid n (length mid - n) mid last ≡ over (first ++ text) out
  behind text {last} w =
      (λ i. take (f.counts i) (f.puts i) ++ ((w ∙ ap (over text) part_is) i ++ drop (length mid - n) (left_over i)))
      ∙ (λ i. take-append_seam first (drop (length first) out) i
      ++ ((text ++ drop-drop (length text) (length first) out i) ++ drop_of_length-le (drop (length first) out) {i = length mid - n} (omega (arith, f.counts, long)) i))
      ∙ simp (append-nil, append_assoc, length-append)
