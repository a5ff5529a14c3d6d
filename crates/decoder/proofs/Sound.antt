-- What the tests of a record say in numbers: the sizes and counts are within their limits, and so is the matrix.
-- Assumes nothing.
use mathlib.Core.Path.{◌≡◌, refl}
use mathlib.Core.Bool.{Bool, true, false, not}
use Prim.Native.Nat.{ℕ, ◌+◌, ◌*◌, ◌≤◌}
use native.Mathlib.Nat.{mul-le-mul}
use native.Mathlib.Omega.{arith}
use lib.Dec.{eqb, leb, ltb}
use borrow.Author.Tests.{not-true, not-false, eqb-false, leb-true, leb-false, ltb-false, ne_eqb, le-leb, lt-ltb, le-ltb}
use Rattle.linear.proofs.Choice.{and_true, or_false}
use Rattle.block.specs.Sizes.{over_limit, sized}
use Rattle.block.proofs.Bounds.{limited}
use Rattle.decoder.specs.declared.Decoder.{Decoder}
use Rattle.decoder.specs.Records.{k_of, l_of, f_of, rows_in, taken_by, sound, bad_state}

module _ (k L : ℕ) where
  pub matrix_small : k ≤ 256 → L ≤ 4096 → k * (k + L) ≤ 1114112
  matrix_small h l = mul-le-mul {n₂ = 256} {m₂ = 4352} h (omega arith)

  pub block_small : k ≤ 256 → L ≤ 4096 → k * L ≤ 1048576
  block_small h l = mul-le-mul {n₂ = 256} {m₂ = 4096} h l

pub record Sound (d : Decoder) : Type 0 where
  pub some_pieces : k_of d ≡ 0 → ⊥
  pub some_bytes : l_of d ≡ 0 → ⊥
  pub pieces : k_of d ≤ 256
  pub bytes : l_of d ≤ 4096
  pub rows_pieces : rows_in d ≤ k_of d
  pub rows_taken : rows_in d ≤ taken_by d
  pub taken : taken_by d ≤ 65535

pub record Holds (d : Decoder) (n : ℕ) : Type 0 where
  pub numbers : Sound d
  pub room : k_of d * f_of d ≤ n

module _ (d : Decoder) where
  pub told : sound d ≡ true → Sound d
  unfolding sound sized
  told e =
      let s = and_true (sized (k_of d) (l_of d)) _ e in
      let k = and_true (not (eqb (k_of d) 0)) _ s.0 in
      let L = and_true (not (eqb (l_of d) 0)) _ k.1 in
      let r = and_true (leb (rows_in d) (k_of d)) _ s.1 in
      let t = and_true (leb (rows_in d) (taken_by d)) _ r.1 in
      let w = limited (k_of d) (l_of d) (not-true _ L.1) in
      record {
        some_pieces = eqb-false _ _ (not-true _ k.0);
        some_bytes = eqb-false _ _ (not-true _ L.0);
        pieces = w.pieces;
        bytes = w.bytes;
        rows_pieces = leb-true _ _ r.0;
        rows_taken = leb-true _ _ t.0;
        taken = leb-true _ _ t.1;
      }

  pub shown : Sound d → sound d ≡ true
  unfolding sound sized over_limit
  shown s =
      simp (
        ne_eqb _ _ s.some_pieces,
        ne_eqb _ _ s.some_bytes,
        le-ltb _ _ s.pieces,
        le-ltb _ _ s.bytes,
        le-leb _ _ s.rows_pieces,
        le-leb _ _ s.rows_taken,
        le-leb _ _ s.taken,
      )

  pub holds : (n : ℕ) → bad_state d n ≡ false → Holds d n
  unfolding bad_state
  holds n e =
      let o = or_false (not (sound d)) (ltb n (k_of d * f_of d)) e in
      record { numbers = told (not-false (sound d) o.0); room = ltb-false _ _ o.1 }

-- Named in docs/PORT.md; no proof here cites it.

pub not_below : (a b : ℕ) → leb a b ≡ not (ltb b a)
not_below a b = go (leb a b) refl
  where
    go : (t : Bool) → leb a b ≡ t → t ≡ not (ltb b a)
    go true e = rw (le-ltb b a (leb-true a b e))
    go false e = rw (lt-ltb b a (leb-false a b e))
