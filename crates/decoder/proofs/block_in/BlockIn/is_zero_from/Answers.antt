-- The bytes from `at` on are the rest of the row that a turn reads, and those of the rows behind it.
use Rattle.std.proofs.Common.{Bool, ◌&&◌, ◌≡◌, ℕ, List, ◌+◌, ◌-◌, ◌*◌, ◌≤◌, length, take, drop, refl, sym, ap, ◌∙◌, arith, add-one}
use Rattle.std.proofs.Math.Nat.{suc-mul, mul-le-mul_right}
use Rattle.std.proofs.Math.ListN.{drop_of_length-le}
use Rattle.std.proofs.lemmas.List.{take_rest}
use Rattle.linear.specs.Rows.{all_zero}
use Rattle.decoder.specs.Payloads.{bytes}
use Rattle.decoder.proofs.Search.{zero_row}
use Rattle.decoder.proofs.Payload.{length_bytes}
use Rattle.decoder.proofs.block_in.BlockIn.is_zero_from.Goals as goal

next : (i L : ℕ) → (i + 1) * L ≡ i * L + L
next i L = ap (λ (x : ℕ). x * L) (add-one i) ∙ suc-mul i L

-- what the test of the rest of row i tells
module _ (block row : List ℕ) (L i at skip : ℕ) (zero : Bool) (here : row ≡ take L (drop (i * L) block)) (size : length row ≡ L) (reach : at ≤ i * L + L)
    (rest : all_zero (drop at block) ≡ all_zero (drop (i * L + (at - i * L)) block)) (s : skip ≡ at - i * L)
    (told : zero ≡ all_zero (take (length row - skip) (drop skip row))) where
  split : all_zero (drop at block) ≡ (zero && all_zero (drop ((i + 1) * L) block))
  split =
      let behind : List ℕ = drop ((i + 1) * L) block in
      let whole : zero ≡ all_zero (drop skip (take L (drop (i * L) block))) =
      told ∙ ap all_zero (take_rest row skip) ∙ ap (λ (r : List ℕ). all_zero (drop skip r)) here in
      rest ∙ ap (λ (n : ℕ). all_zero (drop (i * L + n) block)) (sym s)
      ∙ zero_row block L i (i + 1) refl skip (omega (arith, ap length here))
      ∙ ap (λ (z : Bool). z && all_zero behind) (sym whole)

pub returns-then-not-is_zero : goal.returns-then-not-is_zero
returns-then-not-is_zero c =
    let b = c.args.self.now in
    let l = c.loop-i in
    let p = c.payload in
    sym (split (bytes b) p.result.now b.len l.i c.args.at c.saturating_sub-skip.result c.is_zero.result p.ensures.here p.ensures.size l.invariant.within
    l.invariant.rest c.saturating_sub-skip.ensures c.is_zero.ensures
    ∙ ap (λ (z : Bool). z && all_zero (drop ((l.i + 1) * b.len) (bytes b))) c.if-not-is_zero.true)

pub loop-i-preserved : goal.loop-i-preserved
loop-i-preserved c =
    let b = c.args.self.now in
    let l = c.loop-i in
    let p = c.payload in
    let behind : (l.i + 1) * b.len ≡ (l.i + 1) * b.len + (c.args.at - (l.i + 1) * b.len) = omega (arith, next l.i b.len) in
    record {
      within = omega (arith, next l.i b.len);
      rest =
          split (bytes b) p.result.now b.len l.i c.args.at c.saturating_sub-skip.result c.is_zero.result p.ensures.here p.ensures.size l.invariant.within
          l.invariant.rest c.saturating_sub-skip.ensures c.is_zero.ensures
          ∙ ap (λ (z : Bool). z && all_zero (drop ((l.i + 1) * b.len) (bytes b))) c.if-not-is_zero.false
          ∙ ap (λ (n : ℕ). all_zero (drop n (bytes b))) behind;
    }

pub returns : goal.returns
unfolding all_zero
returns c =
    let b = c.args.self.now in
    let end : b.k * b.len ≤ c.loop-i.i * b.len = mul-le-mul_right b.len c.loop-i-test.false in
    sym (c.loop-i.invariant.rest ∙ ap all_zero (drop_of_length-le (bytes b) (omega (arith, end, length_bytes b))))
