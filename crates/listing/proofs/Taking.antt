-- A piece that `decode` answered: the record to go on with and the number are those of one call.
-- Assumes nothing.
use mathlib.Core.Path.{◌≡◌, sym, ◌∙◌}
use mathlib.Core.List.{List}
use Prim.Native.Nat.{ℕ}
use Rattle.std.specs.Prelude.{Result}
use Rattle.answers.specs.Number.{Answer, number_of}
use Rattle.answers.specs.declared.RLNCError.{RLNCError}
use Rattle.galois.specs.FieldLaws.{FieldLaws}
use Rattle.decoder.specs.declared.Decoder.{Decoder}
use Rattle.decoder.specs.declared.Taken.{Taken}
use Rattle.decoder.specs.Answers.{taken_number, kept}
use Rattle.decoder.specs.Entries.{Decoded}
use Rattle.decoder.proofs.Calls.{number_is, record_is, buffer_is}
use Rattle.listing.specs.Steps.{Took}

module _ {𝓕 : FieldLaws} {d : Decoder} {elements full last : List ℕ} {r : Result Taken RLNCError} (x : Decoded 𝓕 d elements full r last) where
  pub took : (e : Decoder) (a : Answer) → kept d r ≡ e → taken_number r ≡ number_of a → Took 𝓕 d full elements (e, a) last
  took e a k n = record { next = sym k ∙ record_is x; answer = sym n ∙ number_is x; left = buffer_is x }
