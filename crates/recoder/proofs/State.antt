-- What the recoder's own tests tell: numbers within the limits, a piece longer than its coefficients, and pieces that are as many bytes as they say.
-- Assumes nothing.
use mathlib.Core.Path.{◌≡◌}
use mathlib.Core.Bool.{true, false, not}
use Prim.Native.Nat.{ℕ, ◌-◌, ◌*◌, ◌≤◌, ◌<◌}
use native.Mathlib.Nat.{mul-le-mul}
use native.Mathlib.Omega.{arith}
use lib.Dec.{eqb, leb, ltb}
use borrow.Author.Tests.{ltb-false, leb-false, eqb-false, not-true, not-false}
use Rattle.linear.proofs.Choice.{and_true, or_false}
use Rattle.block.proofs.Bounds.{Within, within}
use Rattle.recoder.specs.declared.Recoder.{Recoder}
use Rattle.recoder.specs.Entries.{sound, bad_state}

pub record Numbers (d : Recoder) : Type 0 where
  pub payload : d.num_pieces_coded_together < d.full_coded_piece_byte_len
  pub some_pieces : 0 < d.num_pieces_received
  pub few : d.num_pieces_received ≤ 256
  pub sizes : Within d.num_pieces_coded_together (d.full_coded_piece_byte_len - d.num_pieces_coded_together)

pub numbers : (d : Recoder) → sound d ≡ true → Numbers d
unfolding sound
numbers d e =
    let t = and_true (not (leb d.full_coded_piece_byte_len d.num_pieces_coded_together)) _ e in
    let u = and_true (not (eqb d.num_pieces_received 0)) _ t.1 in
    let v = and_true (not (ltb 256 d.num_pieces_received)) _ u.1 in
    let some : d.num_pieces_received ≡ 0 → ⊥ = eqb-false _ _ (not-true _ u.0) in
    record {
      payload = leb-false _ _ (not-true _ t.0);
      some_pieces = omega arith;
      few = ltb-false _ _ (not-true _ v.0);
      sizes = within _ _ v.1;
    }

-- 256 pieces of 256 coefficients and 4,096 bytes
pub pieces_within : (d : Recoder) → Numbers d → d.num_pieces_received * d.full_coded_piece_byte_len ≤ 1114112
pieces_within d n =
    let wide : d.full_coded_piece_byte_len ≤ 4352 = omega (arith, n.sizes.limits) in
    mul-le-mul n.few wide

pub record Held (d : Recoder) (room : ℕ) : Type 0 where
  pub within_limits : Numbers d
  pub long : d.num_pieces_received * d.full_coded_piece_byte_len ≤ room

pub held : (d : Recoder) (room : ℕ) → bad_state d room ≡ false → Held d room
unfolding bad_state
held d room h =
    let t = or_false (not (sound d)) _ h in
    record { within_limits = numbers d (not-false _ t.0); long = ltb-false _ _ t.1 }
