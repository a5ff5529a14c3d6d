-- The outcome of a piece that no test refuses, and those of a recovery whose tests pass; and the outcomes of an order of refusals that is known.
-- Assumes nothing.
use mathlib.Core.Path.{◌≡◌, refl, ap}
use mathlib.Core.Bool.{false}
use mathlib.Core.List.{List, ◌++◌}
use Prim.Native.Nat.{ℕ, ◌+◌, ◌*◌, ◌≤◌, ◌<◌}
use borrow.Author.Tests.{eq-eqb, le-ltb}
use native.Mathlib.Omega.{arith}
use lib.Seq.{length-take-le}
use lib.ListN.{length, take, drop, replicate}
use Rattle.std.specs.Prelude.{Result, Ok, Err}
use Rattle.answers.specs.declared.RLNCError.{RLNCError}
use Rattle.answers.specs.declared.RLNCError.TheVariants.{InvalidDecodedDataFormat}
use Rattle.galois.specs.FieldLaws.{FieldLaws}
use Rattle.linear.specs.Buffer.{holding}
use Rattle.block.specs.declared.BrokenPadding.{BrokenPadding}
use Rattle.block.specs.Reading.{reading, answer_of, data_length}
use Rattle.decoder.specs.declared.Decoder.{Decoder}
use Rattle.decoder.specs.declared.Taken.{Taken}
use Rattle.decoder.specs.Records.{k_of, l_of, f_of, rows_in, bad_state}
use Rattle.decoder.specs.Payloads.{block_at}
use Rattle.decoder.specs.Entries.{decoder_of, new_refusal, NewDecoder, take_refusal, rows_after, taking, Decoded, block_in, recover_refusal, Recovery}

module _ {𝓕 : FieldLaws} {d : Decoder} {elements full : List ℕ} where
  pub take_made : {t : Taken} {last : List ℕ} → take_refusal d (length elements) (length full) ≡ Ok tt → t ≡ taking 𝓕 d elements full
      → last ≡ holding (k_of d) (f_of d) (rows_after 𝓕 d elements full) elements → Decoded 𝓕 d elements full (Ok t) last
  take_made r t h = record { result = rw (r, t) refl; left = rw r h }

module _ (M : ℕ) (d : Decoder) (elements out : List ℕ) (fine : bad_state d (length elements) ≡ false) (all : rows_in d ≡ k_of d)
    (room : k_of d * l_of d ≤ length out) where
  -- where the tests pass, the padding tells
  passed : (p : Result ℕ BrokenPadding) → reading M (block_at (k_of d) (l_of d) elements) ≡ p → recover_refusal M d elements (length out) ≡ answer_of p
  unfolding recover_refusal block_in
  passed p e = rw (fine, eq-eqb _ _ all, le-ltb _ _ room) (ap answer_of e)

  pub recover_broken : (b : BrokenPadding) → reading M (block_at (k_of d) (l_of d) elements) ≡ Err b → Recovery M d elements out (Err InvalidDecodedDataFormat) out
  unfolding answer_of
  recover_broken b e = let r = passed (Err b) e in record { result = rw r refl; left = rw r refl }

  -- the data is put into the first n bytes
  pub recover_made : (n : ℕ) (part : List ℕ) → reading M (block_at (k_of d) (l_of d) elements) ≡ Ok n → n < k_of d * l_of d
      → part ≡ take (length (take n out)) (block_at (k_of d) (l_of d) elements) → Recovery M d elements out (Ok n) (part ++ drop n out)
  unfolding answer_of data_length block_in
  recover_made n part e l h =
      let r = passed (Ok n) e in
      let whole : length (take n out) ≡ n = length-take-le n out (omega arith) in
      let front : part ≡ take n (block_at (k_of d) (l_of d) elements) = rw whole at h in
      record { result = rw (r, e) refl; left = rw (r, e) (ap (λ (x : List ℕ). x ++ drop n out) front) }

-- Named in docs/PORT.md; no proof here cites them.

module _ {L k : ℕ} {elements : List ℕ} where
  pub new_refused : {e : RLNCError} → new_refusal L k (length elements) ≡ Err e → NewDecoder L k elements (Err e) elements
  new_refused h = record { result = rw h refl; left = rw h refl }

  pub new_made : {last : List ℕ} → new_refusal L k (length elements) ≡ Ok tt → last ≡ replicate (k * (k + L)) 0 ++ drop (k * (k + L)) elements
      → NewDecoder L k elements (Ok (decoder_of k L 0 0)) last
  new_made h l = record { result = rw h refl; left = rw h l }

pub take_refused : {𝓕 : FieldLaws} {d : Decoder} {elements full : List ℕ} {e : RLNCError} → take_refusal d (length elements) (length full) ≡ Err e
    → Decoded 𝓕 d elements full (Err e) elements
take_refused h = record { result = rw h refl; left = rw h refl }
