-- An outcome whose answer is known, handed out with that answer's number.
-- Assumes nothing.
use mathlib.Core.Path.{◌≡◌, ap, ◌∙◌, subst}
use Prim.Native.Nat.{ℕ}
use Rattle.answers.specs.Number.{Answer, number_of}
use Rattle.rlnc.specs.Numbered.{Numbered}

-- Named in docs/PORT.md; no proof here cites it.

pub numbered : {Outcome : Answer → Type 0} {answer a : Answer} {r : ℕ} → a ≡ answer → r ≡ number_of a → Outcome a → Numbered Outcome answer r
numbered {Outcome} e n o = record { number = n ∙ ap number_of e; outcome = subst Outcome e o }
