-- A decoder saved: the form's length, handed out.
-- Assumes nothing.
use mathlib.Core.Path.{◌≡◌, refl, subst}
use mathlib.Core.List.{List}
use Prim.Native.Nat.{ℕ}
use Rattle.std.specs.Prelude.{Result}
use Rattle.std.specs.Result.{result_unwrap_or}
use Rattle.answers.specs.Number.{number_of}
use Rattle.answers.specs.declared.RLNCError.{RLNCError}
use Rattle.decoder.specs.declared.Decoder.{Decoder}
use Rattle.stored.specs.Entries.{Saving}
use Rattle.rlnc.specs.Given.{Given}
use Rattle.rlnc.specs.Forms.{FormSaved}
use Rattle.rlnc.proofs.Given.{given_number, given_value}

pub saved_given : {d : Decoder} {elements out last : List ℕ} {n r n' : ℕ} {c : Result ℕ RLNCError} → Saving d elements out c last → Given c n r n'
    → FormSaved d elements out n r n' last
saved_given o g = record { number = given_number _ _ o.result g; length_stored = given_value _ _ o.result g; left = o.left }

-- Named in docs/PORT.md; no proof here cites it.

pub form_saved : {d d' : Decoder} {elements out last : List ℕ} {n r : ℕ} {m : Result ℕ RLNCError} → d ≡ d' → Saving d elements out m last
    → (c : Result ℕ RLNCError) → m ≡ c → r ≡ number_of c → FormSaved d' elements out n r (result_unwrap_or c n) last
form_saved {d} {elements} {out} {last} {n} {r} same o c e t =
    subst (λ (x : Decoder). FormSaved x elements out n r (result_unwrap_or c n) last) same
    (saved_given (subst (λ (x : Result ℕ RLNCError). Saving d elements out x last) e o) (record { number = t; stored = refl }))
