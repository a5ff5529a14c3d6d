-- `Written` says what is answered and what the output holds, each by an equation: so no two outcomes satisfy it. `read` and `read_kind` ensure
-- an equation for what they answer, and write nothing.
-- Assumes nothing.
use mathlib.Core.Path.{◌≡◌, sym, ◌∙◌}
use mathlib.Core.List.{List}
use Prim.Native.Nat.{ℕ}
use Rattle.answers.specs.Number.{Answer}
use Rattle.stream.specs.declared.Geometry.{Geometry}
use Rattle.stream.specs.Records.{Written}

pub written_once : {g : Geometry} {piece out last last' : List ℕ} {r r' : Answer} → Written g piece out r last → Written g piece out r' last'
    → (r ≡ r') × (last ≡ last')
written_once w w' = (w.result ∙ sym w'.result, w.left ∙ sym w'.left)
