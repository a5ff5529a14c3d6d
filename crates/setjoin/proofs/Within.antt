-- What is read, fed and put lies in its buffer.
-- Assumes nothing.
use Rattle.std.proofs.Common.{arith, ◌≡◌, ap, subst, sym, ℕ, ◌+◌, ◌-◌, ◌≤◌, List, ◌++◌, length, take, drop, IfOk, Result, Ok, Err}
use Rattle.std.proofs.Math.ListN.{length-append, length-take, length-drop}
use lib.Seq.{length-take-le}
use borrow.Rule.Slice.PartMut.{put_mid, same_len_mid}
use Rattle.answers.specs.Number.{Answer}
use Rattle.answers.specs.declared.RLNCError.{RLNCError}
use Rattle.block.specs.Refusal.{if_ok, answered}
use Rattle.reader.specs.declared.Place.{Place}
use Rattle.reader.specs.declared.Place.TheVariants.{Start, Body, Done}
use Rattle.reader.specs.Reading.{wanted}
use Rattle.reader.proofs.Reading.{body_short}
use Rattle.joiner.specs.declared.Joiner.{Joiner}
use Rattle.joiner.specs.declared.Fed.{Fed}
use Rattle.joiner.specs.Machine.{text_room, Outcome, over, fed, Going}

-- what the machine wants
pub want_short : (p : Place) → wanted p ≤ 513
unfolding wanted
want_short Start = omega arith
want_short (Body g) = omega (arith, body_short g)
want_short Done = omega arith

-- what it was fed to put
pub fed_in : {refusal : Answer} {o : Outcome} {elements area out matrix area' last : List ℕ} {r : Result Fed RLNCError}
    → Going refusal o elements area out r matrix area' last → IfOk r (λ f. f.first + f.later ≤ length last)
fed_in {refusal} {o} {out = out} {last = last} x = subst (λ r. IfOk r (λ f. f.first + f.later ≤ length last)) (sym x.result) (go refusal x.printed)
  where
    go : (a : Answer) → last ≡ if_ok a (over (o.first ++ o.later) out) out → IfOk (answered a (fed o.next (length o.first) (length o.later))) (λ f. f.first + f.later ≤ length last)
    go (Ok z) l = omega (arith, ap length l, length-append o.first o.later, length-append (o.first ++ o.later) (drop (length (o.first ++ o.later)) out))
    go (Err e) l = tt

-- Named in docs/PORT.md; no proof here cites them.

-- where a turn's text starts, with room for it
pub starts_in : {E : Type 0} {r : Result ℕ E} {n most : ℕ} → IfOk r (λ n. n + text_room ≤ most) → r ≡ Ok n → n ≤ most
starts_in {n = n} {most = most} h e =
    let room : n + text_room ≤ most = subst (λ r. IfOk r (λ n. n + text_room ≤ most)) e h in
    omega arith

pub room_in : {E : Type 0} {r : Result ℕ E} {n : ℕ} (buf : List ℕ) → IfOk r (λ n. n + text_room ≤ length buf) → r ≡ Ok n
    → text_room ≤ length (take (length buf - n) (drop n buf))
room_in {n = n} buf h e =
    let room : n + text_room ≤ length buf = subst (λ r. IfOk r (λ n. n + text_room ≤ length buf)) e h in
    omega (arith, length-take (length buf - n) (drop n buf), length-drop n buf)

pub read_in : (n : ℕ) (part rest : List ℕ) → n ≤ length part → n ≤ length (part ++ rest)
read_in n part rest h = omega (arith, length-append part rest)

pub text_in : {r : Result Fed RLNCError} {next : Joiner} {n size most : ℕ} → IfOk r (λ f. f.first + f.later ≤ most) → r ≡ Ok (fed next n size) → n + size ≤ most
text_in {most = most} h e = subst (λ r. IfOk r (λ f. f.first + f.later ≤ most)) e h

-- n bytes of the part from `from` on
pub sum_in : (from n : ℕ) (buf : List ℕ) → from ≤ length buf → n ≤ length (take (length buf - from) (drop from buf)) → from + n ≤ length buf
sum_in from n buf h k = omega (arith, length-take (length buf - from) (drop from buf), length-drop from buf)

module _ (from n : ℕ) (out part : List ℕ) (h : from ≤ length out) (k : n ≤ length part) (same : length part ≡ length (take (length out - from) (drop from out))) where
  pub put_in : from + n ≤ length out
  put_in = sum_in from n out h (omega arith)

  pub put_back : from + n ≤ length (put_mid from (length out - from) out part)
  put_back = omega (arith, put_in, same_len_mid from (length out - from) out part same)

-- where the last lines begin
pub last_in : (from n size : ℕ) (out part : List ℕ) → from ≤ length out → n + size ≤ length part → length part ≡ length (take (length out - from) (drop from out))
    → from + n ≤ length (take (from + n + size) (put_mid from (length out - from) out part))
last_in from n size out part h k same =
    omega (arith, length-take-le (from + n + size) (put_mid from (length out - from) out part) (omega (arith, put_back from (n + size) out part h k same)))
