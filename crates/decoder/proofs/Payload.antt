-- The block that a buffer of rows holds, read where it stands: row i's payload is the block's bytes from i·L on.
-- Assumes nothing.
use mathlib.Core.Path.{◌≡◌, sym, ap, ◌∙◌}
use mathlib.Core.List.{List, ◌++◌, map}
use Prim.Native.Nat.{ℕ, zero, suc, ◌+◌, ◌-◌, ◌*◌, ◌≤◌, ◌<◌}
use native.Mathlib.Nat.{le_of_suc-le-suc, not-suc-le-zero, zero-mul, suc-mul, zero-add, add-zero, add_comm, mul-le-mul_left}
use native.Mathlib.Omega.{arith}
use lib.ListN.{length, take, drop, length-append, length-drop}
use lib.Seq.{take-add, take_at, take_all, drop_at, drop-drop, length-take-le, drop-append-add}
use Rattle.linear.specs.Buffer.{rows_of, flat}
use Rattle.linear.proofs.Buffer.{row_end}
use Rattle.decoder.specs.declared.block_in.BlockIn.{BlockIn}
use Rattle.decoder.specs.Payloads.{block_at, bytes}

module _ (c L : ℕ) where
  abbrev pub payloads : ℕ → List ℕ → List ℕ
  payloads n buffer = flat (map (drop c) (rows_of (c + L) n buffer))

  suc_row : (n f : ℕ) → suc n * f ≡ f + n * f
  suc_row n f = suc-mul n f ∙ add_comm (n * f) f

  pub payload : (buffer : List ℕ) → c ≤ length buffer → drop c (take (c + L) buffer) ≡ take L (drop c buffer)
  payload buffer h = ap (drop c) (take-add c L buffer) ∙ drop_at (take c buffer) (take L (drop c buffer)) c (length-take-le c buffer h)

  first : (n : ℕ) (buffer : List ℕ) → c ≤ length buffer → payloads (suc n) buffer ≡ take L (drop c buffer) ++ payloads n (drop (c + L) buffer)
  unfolding rows_of flat
  first n buffer h = ap (λ (r : List ℕ). r ++ payloads n (drop (c + L) buffer)) (payload buffer h)

  long : (buffer : List ℕ) → c + L ≤ length buffer → length (take L (drop c buffer)) ≡ L
  long buffer h = length-take-le L (drop c buffer) (simp length-drop (omega arith))

  pub length_payloads : (n : ℕ) (buffer : List ℕ) → n * (c + L) ≤ length buffer → length (payloads n buffer) ≡ n * L
  unfolding rows_of flat
  length_payloads zero buffer h = sym (zero-mul L)
  length_payloads (suc n) buffer h =
      let w : c + L ≤ length buffer = omega (arith, suc_row n (c + L)) in
      let v : n * (c + L) ≤ length (drop (c + L) buffer) = simp length-drop (omega (arith, suc_row n (c + L))) in
      ap length (first n buffer (omega arith)) ∙ length-append (take L (drop c buffer)) (payloads n (drop (c + L) buffer))
      ∙ (λ j. long buffer w j + length_payloads n (drop (c + L) buffer) v j) ∙ sym (suc_row n L)

  -- past the first row
  past : (n m : ℕ) (buffer : List ℕ) → c + L ≤ length buffer → drop (L + m) (payloads (suc n) buffer) ≡ drop m (payloads n (drop (c + L) buffer))
  past n m buffer w =
      ap (drop (L + m)) (first n buffer (omega arith))
      ∙ ap (λ (l : ℕ). drop (l + m) (take L (drop c buffer) ++ payloads n (drop (c + L) buffer))) (sym (long buffer w))
      ∙ drop-append-add (take L (drop c buffer)) (payloads n (drop (c + L) buffer)) m

  -- from row i on: its payload, and the rows behind it
  pub from_row : (n i : ℕ) (buffer : List ℕ) → i < n → n * (c + L) ≤ length buffer
      → drop (i * L) (payloads n buffer) ≡ take L (drop (i * (c + L) + c) buffer) ++ drop (i * L + L) (payloads n buffer)
  from_row zero i buffer h w = absurd (not-suc-le-zero h)
  from_row (suc n) zero buffer h w =
      let r : c + L ≤ length buffer = omega (arith, suc_row n (c + L)) in
      rw (zero-mul L, zero-mul (c + L), zero-add c, zero-add L)
      (first n buffer (omega arith) ∙ ap (λ (l : List ℕ). take L (drop c buffer) ++ l) (sym (rw (add-zero L) at (past n 0 buffer r))))
  from_row (suc n) (suc i) buffer h w =
      let r : c + L ≤ length buffer = omega (arith, suc_row n (c + L)) in
      let v : n * (c + L) ≤ length (drop (c + L) buffer) = simp length-drop (omega (arith, suc_row n (c + L))) in
      let place : c + L + (i * (c + L) + c) ≡ suc i * (c + L) + c = omega (arith, suc_row i (c + L)) in
      let next : L + (i * L + L) ≡ suc i * L + L = omega (arith, suc_row i L) in
      ap (λ (k : ℕ). drop k (payloads (suc n) buffer)) (suc_row i L) ∙ past n (i * L) buffer r
      ∙ from_row n i (drop (c + L) buffer) (le_of_suc-le-suc h) v
      ∙ (λ j. take L ((drop-drop (i * (c + L) + c) (c + L) buffer ∙ ap (λ (k : ℕ). drop k buffer) place) j) ++ sym (past n (i * L + L) buffer r) j)
      ∙ ap (λ (k : ℕ). take L (drop (suc i * (c + L) + c) buffer) ++ drop k (payloads (suc n) buffer)) next

pub length_bytes : (b : BlockIn) → length (bytes b) ≡ b.k * b.len
length_bytes b = length_payloads b.k b.len b.k b.elements.now b.room

-- an index of the block is one of the buffer
pub bytes_within : (b : BlockIn) → length (bytes b) ≤ length b.elements.now
bytes_within b =
    let payload : b.len ≤ b.k + b.len = omega arith in
    omega (arith, length_bytes b, mul-le-mul_left b.k payload, b.room)

-- row i's payload
module _ (k L : ℕ) (elements : List ℕ) (w : k * (k + L) ≤ length elements) where
  pub payload_at : (i : ℕ) → i < k
      → take L (take (length elements - (i * (k + L) + k)) (drop (i * (k + L) + k) elements)) ≡ take L (drop (i * L) (block_at k L elements))
  payload_at i h =
      let from : ℕ = i * (k + L) + k in
      let here : List ℕ = take L (drop from elements) in
      let long : length here ≡ L = length-take-le L (drop from elements) (simp length-drop (omega (arith, row_end (k + L) h))) in
      let rest : List ℕ = drop (i * L + L) (block_at k L elements) in
      ap (take L) (take_all (length elements - from) (drop from elements) (simp length-drop (omega arith)))
      ∙ sym (ap (take L) (from_row k L k i elements h w) ∙ take_at here rest L long)
