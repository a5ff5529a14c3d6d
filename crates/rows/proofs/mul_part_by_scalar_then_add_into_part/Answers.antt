-- `rows::mul_part_by_scalar_then_add_into_part`: the part at `from` lies in the front, where the other does not.
use Rattle.std.proofs.Common.{◌≡◌, ◌+◌, ◌-◌, ◌≤◌, List, ℕ, ◌++◌, take, drop, refl, sym, ap, ◌∙◌, arith, rules}
use Rattle.std.proofs.Math.Seq.{take-take}
use Rattle.std.proofs.lemmas.List.{drop-take}
use Rattle.galois.specs.FieldLaws.{FieldLaws}
use Rattle.field.specs.FieldOf.{field_of}
use Rattle.linear.specs.Rows.{add_multiple}
use Rattle.rows.specs.declared.Parts.{Parts}
use Rattle.rows.specs.Outcomes.{added_part}
use Rattle.rows.proofs.Outcomes.{added}
use Rattle.rows.proofs.mul_part_by_scalar_then_add_into_part.Goals as goal

part_before : (n at m : ℕ) (b : List ℕ) → at + n ≤ m → take n (drop at (take m b)) ≡ take n (drop at b)
part_before n at m b h =
    let e : m ≡ at + (m - at) = omega arith in
    ap (λ (k : ℕ). take n (drop at (take k b))) e ∙ ap (take n) (drop-take at (m - at) b) ∙ take-take n (m - at) (drop at b) (omega arith)

in_front : (𝓕 : FieldLaws) (q : ℕ) (p : Parts) (b : List ℕ) {front back last : List ℕ} {k : ℕ} → k ≡ p.len → front ≡ take p.to b → back ≡ drop p.to b
    → p.from + p.len ≤ p.to → last ≡ add_multiple 𝓕 q (take k (drop p.from front)) (take p.len back)
    → front ++ (last ++ drop p.len back) ≡ added_part 𝓕 q p b
in_front 𝓕 q p b n f g h e = rw (e, n, f, g, part_before p.len p.from p.to b h) refl

pub returns-then-from-to : goal.returns-then-from-to
returns-then-from-to c =
    let p = c.args.parts in
    let cut = c.split_at_mut-front in
    let sum = added c.mul_vec_by_scalar_then_add_into_vec.ensures (search rules) in
    let apart = sym c.lie_apart.ensures ∙ c.if-not-lie_apart.false in
    record {
      answer = rw apart sum.0;
      left = rw apart (in_front (field_of c.args.f) c.args.scalar p c.args.buffer.now (omega arith) cut.ensures.front cut.ensures.back (grind arith) sum.1);
    }
