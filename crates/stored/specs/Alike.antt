-- Two matrices beside one record that no entry tells apart.
use Rattle.std.specs.Prelude.{◌≡◌, List, ℕ, ◌*◌, ◌≤◌, length}
use Rattle.decoder.specs.declared.Decoder.{Decoder}
use Rattle.decoder.specs.Records.{k_of, f_of, held_rows}

-- each is as long as the record needs, and they hold the same rows
pub record Alike (d : Decoder) (a b : List ℕ) : Type 0 where
  pub here : k_of d * f_of d ≤ length a
  pub there : k_of d * f_of d ≤ length b
  pub rows : held_rows d a ≡ held_rows d b
