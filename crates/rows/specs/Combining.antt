-- Rows that lie one after the other in a lent buffer, each times its number, added up.
use Rattle.std.specs.Prelude.{◌≡◌, List, ℕ, ◌*◌, leb, length, Ok, Err}
use Rattle.answers.specs.Number.{Answer}
use Rattle.answers.specs.declared.RLNCError.TheVariants.{BadState}
use Rattle.galois.specs.FieldLaws.{FieldLaws}
use Rattle.linear.specs.Choice.{pick}
use Rattle.linear.specs.Buffer.{rows_of}
use Rattle.linear.specs.Pieces.{combine}

-- rows as wide as `out`, one for each number: a buffer that does not hold them is refused, and nothing changes
pub record Combined (𝓕 : FieldLaws) (rows numbers out : List ℕ) (r : Answer) (last : List ℕ) : Type 0 where
  pub answer : r ≡ pick (leb (length numbers * length out) (length rows)) (Ok tt) (Err BadState)
  pub left : last ≡ pick (leb (length numbers * length out) (length rows)) (combine 𝓕 (length out) numbers (rows_of (length out) (length numbers) rows)) out
