-- `rows::combining::sum_bits`: a turn multiplies by x what the higher bits made, and adds the rows whose number has the bit.
use Rattle.std.proofs.Common.{◌≡◌, List, ℕ, suc, ◌-◌, length, ap, ◌∙◌, arith}
use Rattle.field.specs.FieldOf.{field_of}
use Rattle.linear.specs.Buffer.{rows_of}
use Rattle.linear.specs.Pieces.{combine}
use Rattle.linear.proofs.Coding.{length_combine}
use Rattle.rows.proofs.CombineLaws.{one_empty, above, above_none, begun, grown}
use Rattle.rows.proofs.combining.sum_bits.Goals as goal

pub returns-then-is_empty : goal.returns-then-is_empty
returns-then-is_empty c =
    let a = c.args in
    let none : length a.out.now ≡ 0 = grind (arith, c.is_empty.ensures, c.if-is_empty.true) in
    one_empty a.out.now _ none (length_combine (field_of a.f) (length a.out.now) a.numbers.now _ ∙ none)

pub loop-bit-init : goal.loop-bit-init
loop-bit-init c =
    let a = c.args in
    begun (field_of a.f) (length a.out.now) (length a.numbers.now) a.numbers.now a.rows.now (λ i. omega (arith, c.type_inv.numbers i)) c.requires
    c.clear.ensures

pub loop-bit-preserved : goal.loop-bit-preserved
loop-bit-preserved c =
    let a = c.args in
    let 𝓕 = field_of a.f in
    let l = c.loop-bit in
    let n = length a.out.now in
    let m = length a.numbers.now in
    let next : l.bit ≡ suc (l.bit - 1) = omega arith in
    grown 𝓕 n m a.numbers.now a.rows.now (λ i. omega (arith, c.type_inv.numbers i)) c.requires (l.bit - 1) l.out c.double.new.row
    (l.invariant ∙ ap (λ (b : ℕ). combine 𝓕 n (above b a.numbers.now) (rows_of n m a.rows.now)) next)
    c.double.ensures (c.add_chosen.ensures 𝓕)

pub returns : goal.returns
returns c =
    let a = c.args in
    let 𝓕 = field_of a.f in
    let n = length a.out.now in
    let m = length a.numbers.now in
    let done : c.loop-bit.bit ≡ 0 = omega arith in
    c.loop-bit.invariant
    ∙ ap (λ (b : ℕ). combine 𝓕 n (above b a.numbers.now) (rows_of n m a.rows.now)) done
    ∙ ap (λ (cs : List ℕ). combine 𝓕 n cs (rows_of n m a.rows.now)) (above_none a.numbers.now)
