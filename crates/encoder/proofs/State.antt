-- What the encoder's own tests tell: sizes within the limits, and a block that is as long as they say.
-- Assumes nothing.
use mathlib.Core.Path.{◌≡◌}
use mathlib.Core.Bool.{false, not}
use Prim.Native.Nat.{ℕ, ◌*◌, ◌≤◌}
use borrow.Author.Tests.{ltb-false, not-false}
use Rattle.linear.proofs.Choice.{or_false}
use Rattle.block.specs.Sizes.{sized}
use Rattle.block.proofs.Bounds.{Within, within}
use Rattle.encoder.specs.declared.Encoder.{Encoder}
use Rattle.encoder.specs.Entries.{bad_state}

pub record Held (e : Encoder) (room : ℕ) : Type 0 where
  pub sizes : Within e.piece_count e.piece_byte_len
  pub long : e.piece_count * e.piece_byte_len ≤ room

pub held : (e : Encoder) (room : ℕ) → bad_state e room ≡ false → Held e room
unfolding bad_state
held e room h =
    let t = or_false (not (sized e.piece_count e.piece_byte_len)) _ h in
    record { sizes = within e.piece_count e.piece_byte_len (not-false _ t.0); long = ltb-false _ _ t.1 }
