-- What `decode` answers is the number, the record and the matrix of one call.
-- Assumes nothing.
use mathlib.Core.Path.{◌≡◌, refl, ap, ◌∙◌}
use mathlib.Core.Bool.{Bool, true, false}
use mathlib.Core.List.{List}
use Prim.Native.Nat.{ℕ}
use lib.Dec.{eqb}
use lib.ListN.{length}
use Rattle.std.specs.Prelude.{Result, Ok, Err}
use Rattle.answers.specs.Number.{Answer, number_of}
use Rattle.answers.specs.declared.RLNCError.{RLNCError}
use Rattle.galois.specs.FieldLaws.{FieldLaws}
use Rattle.linear.specs.Choice.{pick}
use Rattle.block.specs.Refusal.{if_ok, answered}
use Rattle.decoder.specs.declared.Decoder.{Decoder}
use Rattle.decoder.specs.declared.Taken.{Taken}
use Rattle.decoder.specs.declared.Taken.TheVariants.{Useful, NotUseful}
use Rattle.decoder.specs.Records.{rows_in}
use Rattle.decoder.specs.Answers.{taken_number, kept}
use Rattle.decoder.specs.Entries.{take_refusal, rows_after, after, taking, Decoded}
use Rattle.decoder.specs.Calls.{number_next, record_next, buffer_next}

pub number_answered : (a : Answer) (t : Taken) → taken_number (answered a t) ≡ if_ok a (taken_number (Ok t)) (number_of a)
unfolding taken_number
number_answered (Ok z) t = refl
number_answered (Err e) t = refl

pub kept_answered : (d : Decoder) (a : Answer) (t : Taken) → kept d (answered a t) ≡ if_ok a (kept d (Ok t)) d
unfolding kept
kept_answered d (Ok z) t = refl
kept_answered d (Err e) t = refl

pub kept_one : (d e : Decoder) (same : Bool) → kept d (Ok (pick same (NotUseful e) (Useful e))) ≡ e
unfolding kept
kept_one d e true = refl
kept_one d e false = refl

module _ {𝓕 : FieldLaws} {d : Decoder} {elements full last : List ℕ} {r : Result Taken RLNCError} (x : Decoded 𝓕 d elements full r last) where
  refusal : Answer
  refusal = take_refusal d (length elements) (length full)

  pub number_is : taken_number r ≡ number_next 𝓕 d elements full
  unfolding refusal number_next
  number_is = ap taken_number x.result ∙ number_answered refusal (taking 𝓕 d elements full)

  pub record_is : kept d r ≡ record_next 𝓕 d elements full
  unfolding refusal record_next taking
  record_is =
      ap (kept d) x.result ∙ kept_answered d refusal (taking 𝓕 d elements full)
      ∙ ap (λ (e : Decoder). if_ok refusal e d) (kept_one d (after 𝓕 d elements full) (eqb (length (rows_after 𝓕 d elements full)) (rows_in d)))

  pub buffer_is : last ≡ buffer_next 𝓕 d elements full
  unfolding buffer_next
  buffer_is = x.left
