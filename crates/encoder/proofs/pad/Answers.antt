-- `encoder::pad` meets its contract: the data copied to the front, the marker stored behind it, and the part behind that cleared.
-- Assumes nothing.
use Rattle.std.proofs.Common.{List, ◌++◌, ℕ, length, drop, refl, sym, ap, ◌∙◌}
use lib.Seq.{take-length}
use Rattle.block.specs.Padding.{marker}
use Rattle.encoder.proofs.Padded.{pads}
use Rattle.encoder.proofs.pad.Goals as goal

pub returns : goal.returns
returns c =
    let a = c.args in
    let copied = ap (λ (l : List ℕ). l ++ drop (length a.«data».now) a.block.now) (c.copy_from_slice.ensures.after ∙ sym (take-length a.«data».now)) in
    pads marker a.«data».now a.block.now c.requires _ copied refl (c.fill.ensures.after (λ y e. e))
