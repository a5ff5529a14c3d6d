-- `encoder::Encoder::new` meets its contract: the tests are the order's, and the piece length is rounded up.
-- Assumes nothing.
use Rattle.std.proofs.Common.{ℕ, ◌+◌, ◌*◌, ◌/◌, List, ◌++◌, length, drop, sym, ap, ◌∙◌, pos_of_ne-zero, length-take-le, ne_eqb, le-ltb}
use Rattle.block.specs.Padding.{marker, filled, padded}
use Rattle.block.proofs.Filling.{round_up}
use Rattle.encoder.specs.Entries.{padded_refusal}
use Rattle.encoder.proofs.Outcomes.{made_of, padded_made}
use Rattle.encoder.proofs.Encoder.new.Goals as goal

pub returns : goal.returns
unfolding padded_refusal padded
returns c =
    let a = c.args in
    let n = length a.«data».now in
    let k = a.piece_count in
    let up = round_up n k (pos_of_ne-zero c.if-piece_count-eq0.false) in
    let o = made_of _ (sym c.in_ok-encoder.was ∙ c.of.ensures) in
    let size = length-take-le (k * (n / k + 1)) a.block.now c.if-block-size.false in
    rw o.1 (padded_made
    (simp (
      sym c.is_empty.ensures ∙ c.if-is_empty.false,
      ne_eqb _ _ c.if-piece_count-eq0.false,
      up,
      o.0,
      le-ltb _ _ c.if-block-size.false,
    ))
    up
    (ap (λ (l : List ℕ). l ++ drop (k * (n / k + 1)) a.block.now) (c.pad.ensures ∙ ap (λ (s : ℕ). filled marker s a.«data».now) size)
    ∙ ap (λ (l : ℕ). filled marker (k * l) a.«data».now ++ drop (k * l) a.block.now) (sym up)))
