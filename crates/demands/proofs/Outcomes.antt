-- What an outcome of the decoder's entries tells: an answer that is no refusal comes of an order of refusals that ends with Ok, and a refusal
-- changes nothing.
-- Assumes nothing.
use mathlib.Core.Path.{◌≡◌, refl}
use mathlib.Core.Logic.{◌⊎◌, inl, inr}
use mathlib.Core.Bool.{Bool, true, false}
use mathlib.Core.List.{List, ◌++◌}
use Prim.Native.Nat.{ℕ, ◌+◌, ◌*◌}
use native.Mathlib.Omega.{arith}
use lib.Dec.{eqb}
use lib.ListN.{length, drop, replicate}
use Rattle.std.specs.Prelude.{Result, Ok, Err}
use Rattle.answers.specs.Number.{Answer}
use Rattle.answers.specs.declared.RLNCError.{RLNCError}
use Rattle.galois.specs.FieldLaws.{FieldLaws}
use Rattle.linear.specs.Choice.{pick}
use Rattle.linear.specs.Buffer.{holding}
use Rattle.block.specs.Refusal.{if_ok, answered}
use Rattle.block.proofs.Answered.{with_value}
use Rattle.decoder.specs.declared.Decoder.{Decoder}
use Rattle.decoder.specs.declared.Taken.{Taken}
use Rattle.decoder.specs.declared.Taken.TheVariants.{Useful, NotUseful}
use Rattle.decoder.specs.Records.{k_of, f_of, rows_in}
use Rattle.decoder.specs.Entries.{decoder_of, new_refusal, NewDecoder, take_refusal, rows_after, after, taking, Decoded}

pub made_of : (L k : ℕ) (buffer elements : List ℕ) (d : Decoder) → NewDecoder L k buffer (Ok d) elements
    → (d ≡ decoder_of k L 0 0) × (elements ≡ replicate (k * (k + L)) 0 ++ drop (k * (k + L)) buffer)
made_of L k buffer elements d n = let v = with_value (new_refusal L k (length buffer)) n.result in (v.1, rw v.0 at n.left)

-- the piece was taken
pub record Took (𝓕 : FieldLaws) (d : Decoder) (elements full : List ℕ) (d' : Decoder) (elements' : List ℕ) : Type 0 where
  pub let_in : take_refusal d (length elements) (length full) ≡ Ok tt
  pub record_is : d' ≡ after 𝓕 d elements full
  pub buffer_is : elements' ≡ holding (k_of d) (f_of d) (rows_after 𝓕 d elements full) elements

module _ (𝓕 : FieldLaws) (d : Decoder) (elements full : List ℕ) (r : Result Taken RLNCError) (elements' : List ℕ) (h : Decoded 𝓕 d elements full r elements') where
  abbrev refusal : Answer
  refusal = take_refusal d (length elements) (length full)

  abbrev next : Decoder
  next = after 𝓕 d elements full

  abbrev rows_left : List ℕ
  rows_left = holding (k_of d) (f_of d) (rows_after 𝓕 d elements full) elements

  pub took : (d' : Decoder) → (r ≡ Ok (Useful d')) ⊎ (r ≡ Ok (NotUseful d')) → Took 𝓕 d elements full d' elements'
  unfolding taking
  took d' w = go refusal refl h.result h.left w
    where
      which : (t : Bool) → r ≡ Ok (pick t (NotUseful next) (Useful next)) → (r ≡ Ok (Useful d')) ⊎ (r ≡ Ok (NotUseful d')) → d' ≡ next
      which true p (inl u) = cc
      which true p (inr u) = cc
      which false p (inl u) = cc
      which false p (inr u) = cc

      go : (a : Answer) → refusal ≡ a → r ≡ answered a (taking 𝓕 d elements full) → elements' ≡ if_ok a rows_left elements
          → (r ≡ Ok (Useful d')) ⊎ (r ≡ Ok (NotUseful d')) → Took 𝓕 d elements full d' elements'
      go (Ok z) e p q w = record { let_in = e; record_is = which (eqb (length (rows_after 𝓕 d elements full)) (rows_in d)) p w; buffer_is = q }
      go (Err x) e p q (inl u) = let z : ◌≡◌ {A = ℕ} 0 1 = cc in absurd (omega arith)
      go (Err x) e p q (inr u) = let z : ◌≡◌ {A = ℕ} 0 1 = cc in absurd (omega arith)

  pub unchanged : (e : RLNCError) → r ≡ Err e → elements' ≡ elements
  unchanged e w = go refusal h.result h.left
    where
      go : (a : Answer) → r ≡ answered a (taking 𝓕 d elements full) → elements' ≡ if_ok a rows_left elements → elements' ≡ elements
      go (Ok z) p q = cc
      go (Err x) p q = q
