-- `Saving` and `Loading` say what is answered and what the lent buffer holds, each by an equation: so no two outcomes satisfy them.
-- Assumes nothing.
use mathlib.Core.Path.{◌≡◌, sym, ◌∙◌}
use mathlib.Core.List.{List}
use Prim.Native.Nat.{ℕ}
use Rattle.std.specs.Prelude.{Result}
use Rattle.answers.specs.declared.RLNCError.{RLNCError}
use Rattle.decoder.specs.declared.Decoder.{Decoder}
use Rattle.stored.specs.Entries.{Saving, Loading}

pub saved_once : {d : Decoder} {elements out last last' : List ℕ} {r r' : Result ℕ RLNCError} → Saving d elements out r last → Saving d elements out r' last'
    → (r ≡ r') × (last ≡ last')
saved_once s s' = (s.result ∙ sym s'.result, s.left ∙ sym s'.left)

pub loaded_once : {form elements last last' : List ℕ} {r r' : Result Decoder RLNCError} → Loading form elements r last → Loading form elements r' last'
    → (r ≡ r') × (last ≡ last')
loaded_once l l' = (l.result ∙ sym l'.result, l.left ∙ sym l'.left)
