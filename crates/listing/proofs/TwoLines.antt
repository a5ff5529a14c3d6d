-- Two lines put one behind the other are both lines as one.
-- Assumes nothing.
use mathlib.Core.Path.{◌≡◌, sym, ap, ◌∙◌, subst}
use mathlib.Core.List.{List, ◌++◌, append_assoc, append-nil}
use Prim.Native.Nat.{ℕ, ◌+◌, ◌-◌, ◌≤◌}
use native.Mathlib.Omega.{arith}
use borrow.Rule.Slice.PartMut.{put_mid}
use lib.ListN.{length, take, drop, length-append, length-drop, drop_of_length-le}
use lib.Seq.{take_all, take-append_seam, drop-append_seam, drop-drop}
use Rattle.std.specs.Prelude.{Result, Ok, Err}
use Rattle.answers.specs.declared.RLNCError.{RLNCError}
use Rattle.listing.specs.Puts.{Lined}
use Rattle.listing.proofs.Putting.{placed}
use Rattle.listing.proofs.Counting.{put_text, put_size, put_whole}

-- `two_lines` is named in docs/PORT.md; no proof here cites it or `never_refused`.

module _ {first out last : List ℕ} {r : Result ℕ RLNCError} {end : ℕ} (second : List ℕ) (l : Lined first out r last)
    (h : length first + length second ≤ length out) (e : r ≡ Ok end) where
  rest : List ℕ
  rest = drop (length first) out

  begun : end ≡ length first
  begun = put_size l (omega arith) end e

  text : last ≡ first ++ rest
  unfolding rest
  text = put_text l (omega arith)

  left : length rest ≡ length out - length first
  unfolding rest
  left = length-drop (length first) out

  behind : drop end last ≡ rest
  behind = (λ i. drop (begun i) (text i)) ∙ drop-append_seam first rest

  long : length last ≡ length first + length rest
  long = ap length text ∙ length-append first rest

  -- the part that the second line was put into
  part : take (length last - end) (drop end last) ≡ rest
  part = ap (take (length last - end)) behind ∙ take_all (length last - end) rest (omega (arith, begun, long))

  room : length second ≤ length rest
  room = omega (arith, left)

  module _ {r' : Result ℕ RLNCError} {last' : List ℕ} (l' : Lined second (take (length last - end) (drop end last)) r' last') where
    whole : Lined second rest r' last'
    whole = subst (λ (x : List ℕ). Lined second x r' last') part l'

    pub never_refused : (e : RLNCError) → r' ≡ Err e → ⊥
    never_refused e e' = put_whole whole room e e'

    pub sum_is : (size : ℕ) → r' ≡ Ok size → end + size ≡ length first + length second
    sum_is size e' = omega (arith, begun, put_size whole room size e')

    pub two_lines : (size : ℕ) → r' ≡ Ok size → Lined (first ++ second) out (Ok (end + size)) (put_mid end (length last - end) last last')
    unfolding rest
    two_lines size e' =
        placed (omega (arith, length-append first second)) (sum_is size e' ∙ sym (length-append first second))
        ((λ i. take (begun i) (text i) ++ (put_text whole room i ++ drop (length last - end) (behind i)))
        ∙ (λ i. take-append_seam first rest i ++ ((second ++ drop-drop (length second) (length first) out i) ++ drop_of_length-le rest {i = length last - end} (omega (arith, begun, long)) i))
        ∙ simp (append-nil, append_assoc, sum_is size e'))
