-- `stream::write` meets its contract: the lengths are tested in the definition's order, then the kind stands first and the piece behind it.
use Rattle.std.proofs.Common.{◌≡◌, ℕ, ◌+◌, ◌-◌, length, List, [], ◌∷◌, ◌++◌, drop, set, ap, ◌∙◌, arith, eq-eqb}
use Rattle.std.proofs.lemmas.List.{drop_all, append-nil}
use borrow.Rule.Slice.PartMut.{put_mid}
use Rattle.stream.specs.Records.{write_refusal}
use Rattle.stream.proofs.write.Goals as goal

written : (kind : ℕ) (out piece part : List ℕ) → length out ≡ length piece + 1 → part ≡ piece
    → put_mid 1 (length (set out 0 kind) - 1) (set out 0 kind) part ≡ kind ∷ piece
written kind [] piece part l e = absurd (omega arith)
written kind (x ∷ out) piece part l e =
    let last : drop (length (x ∷ out) - 1) out ≡ [] = drop_all (length (x ∷ out) - 1) out (omega arith) in
    ap (λ (b : List ℕ). kind ∷ b) ((λ i. e i ++ last i) ∙ append-nil piece)

pub returns : goal.returns
unfolding write_refusal
returns c =
    let s = c.if-piece-body_len.false in
    let e = c.body_len.ensures in
    let l = c.if-out-piece.false in
    let w = written c.kind.result c.args.out.now c.args.piece.now c.copy_from_slice.new.self l c.copy_from_slice.ensures.after in
    record {
      result = simp (← e, eq-eqb _ _ s, ← s, eq-eqb _ _ l);
      left = w ∙ simp (← e, eq-eqb _ _ s, ← s, eq-eqb _ _ l, c.kind.ensures);
    }
