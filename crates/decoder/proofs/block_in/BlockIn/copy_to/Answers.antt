-- A turn copies its row's part of the data.
use Rattle.std.proofs.Common.{ℕ, ◌≡◌, take, length, ◌+◌, ◌-◌, ◌*◌, ◌∙◌, arith}
use Rattle.decoder.specs.Payloads.{bytes}
use Rattle.decoder.proofs.Payload.{length_bytes}
use Rattle.decoder.proofs.Copying.{turns, needed}
use Rattle.decoder.proofs.block_in.BlockIn.copy_to.Goals as goal

pub loop-i-preserved : goal.loop-i-preserved
loop-i-preserved c =
    let b = c.args.self.now in
    let h = needed (length c.args.«data».now) b.len b.k c.loop-i.i b.some_bytes c.requires (omega arith) in
    let at : ℕ = c.loop-i.i * b.len in
    let n : ℕ = c.min-n.result in
    let same : n ≡ at + n - at = omega arith in
    turns (bytes b) c.args.«data».now b.len c.loop-i.i (omega (arith, length_bytes b)) c.loop-i.«data» c.copy_from_slice.new.self at (at + n)
    c.loop-i.invariant (omega arith) (omega (arith, h)) (omega (arith, h, c.min-n.ensures))
    (c.copy_from_slice.ensures.after ∙ (λ j. take (same j) (c.payload.ensures.here j)))
