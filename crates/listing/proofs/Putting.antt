-- A line put whole at the front of a buffer, and a byte put behind it.
-- Assumes nothing.
use mathlib.Core.Path.{◌≡◌, sym, ap, ◌∙◌}
use mathlib.Core.List.{List, [], ◌∷◌, ◌++◌, append_assoc}
use Prim.Native.Nat.{ℕ, suc, ◌+◌, ◌≤◌, ◌<◌}
use native.Mathlib.Numerals.{add-one}
use lib.ListN.{length, get_or, drop, set}
use lib.Seq.{drop-cons, set_at}
use borrow.Author.Tests.{le-ltb}
use Rattle.std.specs.Prelude.{Ok}
use Rattle.listing.specs.Puts.{Lined}

pub placed : {line out last : List ℕ} {n : ℕ} → length line ≤ length out → n ≡ length line → last ≡ line ++ drop n out → Lined line out (Ok n) last
placed h e l = record { result = simp (le-ltb _ _ h, e); left = l ∙ simp (le-ltb _ _ h, e) }

-- a byte put behind text at the front
pub one_behind : (text out : List ℕ) (n b : ℕ) → n ≡ length text → n < length out → set (text ++ drop n out) n b ≡ (text ++ (b ∷ [])) ++ drop (n + 1) out
one_behind text out n b e h =
    ap (λ (l : List ℕ). set (text ++ l) n b) (drop-cons out n 0 h) ∙ set_at text (get_or out n 0) (drop (suc n) out) b n (sym e)
    ∙ ap (λ (m : ℕ). text ++ (b ∷ drop m out)) (sym (add-one n)) ∙ simp append_assoc
