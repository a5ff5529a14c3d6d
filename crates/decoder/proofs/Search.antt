-- The block searched row by row: what is behind a row is what is behind its payload.
-- Assumes nothing.
use mathlib.Core.Path.{◌≡◌, refl, sym, ap, ◌∙◌}
use mathlib.Core.Bool.{Bool, true, false, ◌&&◌}
use mathlib.Core.List.{List, ◌++◌}
use Prim.Native.Nat.{ℕ, zero, suc, ◌+◌, ◌-◌, ◌*◌, ◌≤◌, ◌<◌}
use native.Mathlib.Nat.{suc-mul}
use native.Mathlib.Numerals.{add-one}
use native.Mathlib.Omega.{arith}
use lib.ListN.{length, take, drop, take-append-drop, drop_of_length-le}
use lib.Seq.{drop-drop, drop-append-le}
use Rattle.std.specs.Prelude.{Some, None, Result, Ok, Err}
use Rattle.linear.specs.Rows.{all_zero}
use Rattle.linear.specs.Choice.{pick}
use Rattle.linear.proofs.Buffer.{row_end}
use Rattle.block.specs.declared.BrokenPadding.{BrokenPadding}
use Rattle.block.specs.declared.BrokenPadding.TheVariants.{MarkerAbsent, MarkerFirst, TailNotZero}
use Rattle.block.specs.Reading.{last_marker, read_at, reading}
use Rattle.block.proofs.Reading.{Reason, carried, reason}
use Rattle.block.proofs.LastMarker.{last_front, zero_append}
use Rattle.decoder.specs.declared.block_in.BlockIn.{BlockIn}
use Rattle.decoder.specs.Payloads.{bytes}
use Rattle.decoder.proofs.Marker.{from}
use Rattle.decoder.proofs.Payload.{length_bytes}

-- row i of a block, of L bytes, and what is behind it
module _ (block : List ℕ) (L i m : ℕ) (s : i + 1 ≡ m) where
  pub from_row : drop (i * L) block ≡ take L (drop (i * L) block) ++ drop (m * L) block
  from_row =
      let next : i * L + L ≡ m * L = sym (ap (λ (x : ℕ). x * L) (sym s ∙ add-one i) ∙ suc-mul i L) in
      sym (take-append-drop L (drop (i * L) block))
      ∙ ap (λ (l : List ℕ). take L (drop (i * L) block) ++ l) (drop-drop L (i * L) block ∙ ap (λ (n : ℕ). drop n block) next)

  -- from byte `skip` of the row on: the rest of the row, and what is behind
  pub zero_row : (skip : ℕ) → skip ≤ length (take L (drop (i * L) block))
      → all_zero (drop (i * L + skip) block) ≡ (all_zero (drop skip (take L (drop (i * L) block))) && all_zero (drop (m * L) block))
  zero_row skip h =
      ap all_zero
      (sym (drop-drop skip (i * L) block) ∙ ap (drop skip) from_row ∙ drop-append-le skip (take L (drop (i * L) block)) (drop (m * L) block) h)
      ∙ zero_append (drop skip (take L (drop (i * L) block))) (drop (m * L) block)

-- there is no marker in the rows from m on, and `part` is the payload of the row before them
module _ (M : ℕ) (b : BlockIn) where
  pub none_behind : last_marker M (drop (b.k * b.len) (bytes b)) ≡ None
  unfolding last_marker
  none_behind = ap (last_marker M) (drop_of_length-le (bytes b) (omega (arith, length_bytes b)))

  module _ (m : ℕ) (h : 0 < m) (e : last_marker M (drop (m * b.len) (bytes b)) ≡ None) (part : List ℕ) (p : part ≡ take b.len (drop ((m - 1) * b.len) (bytes b))) where
    of_row : last_marker M (drop ((m - 1) * b.len) (bytes b)) ≡ last_marker M part
    of_row =
        ap (last_marker M) (from_row (bytes b) b.len (m - 1) m (omega arith)) ∙ last_front M (take b.len (drop ((m - 1) * b.len) (bytes b))) (drop (m * b.len) (bytes b)) e
        ∙ ap (last_marker M) (sym p)

    pub row_marked : m ≤ b.k → (j : ℕ) → last_marker M part ≡ Some j → Some ((m - 1) * b.len + j) ≡ last_marker M (bytes b)
    row_marked l j q =
        let end = row_end b.len {j = m - 1} {n = b.k} (omega arith) in
        sym (from M (bytes b) ((m - 1) * b.len) j (omega (arith, end, length_bytes b)) (of_row ∙ q))

    pub row_unmarked : last_marker M part ≡ None → last_marker M (drop ((m - 1) * b.len) (bytes b)) ≡ None
    row_unmarked q = of_row ∙ q

-- what the padding tells, by what the searches have found
module _ (M : ℕ) (block : List ℕ) where
  pub reads_none : last_marker M block ≡ None → Err MarkerAbsent ≡ reading M block
  unfolding reading read_at
  reads_none e = rw e

  pub reads_zero : last_marker M block ≡ Some 0 → Err MarkerFirst ≡ reading M block
  unfolding reading read_at
  reads_zero e = rw e

  reads_some : (n : ℕ) → last_marker M block ≡ Some n → (n ≡ 0 → ⊥) → (z : Bool) → all_zero (drop (n + 1) block) ≡ z
      → pick z (Ok n) (Err TailNotZero) ≡ reading M block
  unfolding reading read_at
  reads_some zero e q z t = absurd (q refl)
  reads_some (suc n) e q z t = rw e (ap (λ (b : Bool). pick b (Ok (suc n)) (Err TailNotZero)) (sym t ∙ ap (λ (i : ℕ). all_zero (drop i block)) (add-one (suc n))))

  pub reads_tail : (n : ℕ) → last_marker M block ≡ Some n → (n ≡ 0 → ⊥) → all_zero (drop (n + 1) block) ≡ false → Err TailNotZero ≡ reading M block
  reads_tail n e q t = reads_some n e q false t

  pub reads_data : (n : ℕ) → last_marker M block ≡ Some n → (n ≡ 0 → ⊥) → all_zero (drop (n + 1) block) ≡ true → Ok n ≡ reading M block
  reads_data n e q t = reads_some n e q true t

  -- the data is shorter than the block
  pub data_in : (n : ℕ) → reading M block ≡ Ok n → n < length block
  data_in n e = go (reading M block) (reason M block) e
    where
      go : (p : Result ℕ BrokenPadding) → Reason M block p → p ≡ Ok n → n < length block
      go (Ok m) (carried l p z) e = let same : m ≡ n = cc in omega (arith, l.inside)
      go (Err b) r e = let z : ◌≡◌ {A = ℕ} 0 1 = cc in absurd (omega arith)
