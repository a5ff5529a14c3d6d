-- What the private functions leave: helpers of their contracts.
use Rattle.std.specs.Prelude.{◌≡◌, List, ℕ, length, Result}
use Rattle.answers.specs.declared.RLNCError.{RLNCError}
use Rattle.galois.specs.FieldLaws.{FieldLaws}
use Rattle.block.specs.Refusal.{if_ok, answered}
use Rattle.stream.specs.declared.Record.{Record}
use Rattle.reader.specs.declared.Came.{Came}
use Rattle.reader.specs.Pump.{front, kept, declines, back}
use Rattle.listing.specs.declared.join.Step.{Step}
use Rattle.listing.specs.Steps.{stepped}
use Rattle.joiner.specs.declared.Closing.{Closing}
use Rattle.joiner.specs.Machine.{State, joins, ending_by, found_by, over}

-- text put at the front of a buffer, n bytes of it
pub record Front (text out : List ℕ) (n : ℕ) (last : List ℕ) : Type 0 where
  pub counts : n ≡ length text
  pub puts : last ≡ over text out

pub record Begun (𝓕 : FieldLaws) (s : State) (came : Came) (bytes out : List ℕ) (r : Result Step RLNCError) (matrix last : List ℕ) : Type 0 where
  pub result :
      r ≡ answered (declines (joins 𝓕) s came) (stepped (kept (joins 𝓕) s came bytes).joining (length (front (joins 𝓕) s came bytes)))
  pub left : matrix ≡ if_ok (declines (joins 𝓕) s came) (kept (joins 𝓕) s came bytes).matrix s.matrix
  pub printed : last ≡ if_ok (declines (joins 𝓕) s came) (over (front (joins 𝓕) s came bytes) out) out

-- the field has no part in it
pub record Closed (s : State) (then : Result Record RLNCError) (at : ℕ) (area out : List ℕ) (r : Closing) (area' last : List ℕ) : Type 0 where
  pub ends : r.ending ≡ ending_by s then
  pub says : (𝓕 : FieldLaws) → Front (back (joins 𝓕) s then at) out r.size last
  pub block : area' ≡ over (found_by s then) area
