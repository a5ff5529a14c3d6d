-- No payload byte sways an answer or a count: the row count after a piece is that of the coefficients alone (linear's Independence).
-- Assumes nothing.
use mathlib.Core.Path.{◌≡◌, refl, sym, ap, ap₂, ◌∙◌}
use mathlib.Core.List.{List, map}
use Prim.Native.Nat.{ℕ, ◌<◌}
use lib.ListN.{length, take}
use Rattle.std.specs.Prelude.{Result, Ok, Err}
use Rattle.answers.specs.Number.{Answer}
use Rattle.answers.specs.declared.RLNCError.{RLNCError}
use Rattle.galois.specs.FieldLaws.{FieldLaws}
use Rattle.linear.proofs.Buffer.{length_rows_of}
use Rattle.linear.proofs.Independence.{count_of}
use Rattle.block.specs.Refusal.{answered}
use Rattle.decoder.specs.declared.Decoder.{Decoder}
use Rattle.decoder.specs.declared.Taken.{Taken}
use Rattle.decoder.specs.Records.{k_of, f_of, rows_in, held_rows}
use Rattle.decoder.specs.Entries.{take_refusal, rows_after, after, taking, Decoded}
use Rattle.decoder.proofs.Accepted.{Accepted, accepted}

module _ (𝓕 : FieldLaws) (d : Decoder) (elements elements' full full' : List ℕ)
    (same_rows : map (take (k_of d)) (held_rows d elements) ≡ map (take (k_of d)) (held_rows d elements'))
    (same_vector : take (k_of d) full ≡ take (k_of d) full') where
  same_count : rows_in d < k_of d → length (rows_after 𝓕 d elements full) ≡ length (rows_after 𝓕 d elements' full')
  unfolding rows_after held_rows
  same_count h =
      count_of 𝓕 (k_of d) (held_rows d elements) (held_rows d elements') full full'
      (rw (length_rows_of (f_of d) (rows_in d) elements) h) same_rows same_vector

  same_taking : rows_in d < k_of d → taking 𝓕 d elements full ≡ taking 𝓕 d elements' full'
  unfolding taking after
  same_taking h = rw (same_count h)

  -- the same answer, with the same record in it
  pub independent : length elements ≡ length elements' → length full ≡ length full' → {r r' : Result Taken RLNCError} {last last' : List ℕ}
      → Decoded 𝓕 d elements full r last → Decoded 𝓕 d elements' full' r' last' → r ≡ r'
  independent l m {r} {r'} h h' =
      let same : take_refusal d (length elements) (length full) ≡ take_refusal d (length elements') (length full') = ap₂ (take_refusal d) l m in
      h.result ∙ go (take_refusal d (length elements) (length full)) (accepted d (length elements) (length full))
      ∙ sym (h'.result ∙ ap (λ (a : Answer). answered a (taking 𝓕 d elements' full')) (sym same))
    where
      go : (a : Answer) → (a ≡ Ok tt → Accepted d (length elements) (length full)) → answered a (taking 𝓕 d elements full) ≡ answered a (taking 𝓕 d elements' full')
      go (Ok z) o = ap Ok (same_taking (o refl).missing)
      go (Err e) o = refl
