-- What each row helper answers, and the bytes that it leaves behind.
use Rattle.std.specs.Prelude.{◌≡◌, List, [], ◌∷◌, ℕ, eqb, length, Ok, Err}
use Rattle.answers.specs.Number.{Answer}
use Rattle.answers.specs.declared.RLNCError.TheVariants.{InvalidPieceLength, BadState}
use Rattle.galois.specs.Gf.{◌⊕◌}
use Rattle.galois.specs.FieldLaws.{FieldLaws}
use Rattle.linear.specs.Choice.{pick}
use Rattle.linear.specs.Rows.{add_multiple, scale_row}
use Rattle.rows.specs.declared.Parts.{Parts}
use Rattle.rows.specs.Parts.{lie_apart, part_at, put_part}

-- each entry of dst plus that of src
unfoldable pub add_row : List ℕ → List ℕ → List ℕ
add_row [] dst = dst
add_row (s ∷ src) [] = []
add_row (s ∷ src) (d ∷ dst) = (d ⊕ s) ∷ add_row src dst

-- the part at `to` plus q times the part at `from`
abbrev pub added_part : FieldLaws → ℕ → Parts → List ℕ → List ℕ
added_part 𝓕 q p b =
    put_part p.to p.len (add_multiple 𝓕 q (part_at p.from p.len b) (part_at p.to p.len b)) b

-- rows of unequal lengths are refused
abbrev pub lengths_answer : List ℕ → List ℕ → Answer
lengths_answer src dst = pick (eqb (length dst) (length src)) (Ok tt) (Err InvalidPieceLength)

-- parts that do not lie in the buffer, or overlap, are refused
abbrev pub parts_answer : Parts → List ℕ → Answer
parts_answer p buffer = pick (lie_apart p (length buffer)) (Ok tt) (Err BadState)

-- a row times q
pub record Scaled (𝓕 : FieldLaws) (q : ℕ) (row last : List ℕ) : Type 0 where
  pub left : last ≡ scale_row 𝓕 q row

-- src added to dst; where it is refused, nothing changes
pub record Summed (src dst : List ℕ) (r : Answer) (last : List ℕ) : Type 0 where
  pub answer : r ≡ lengths_answer src dst
  pub left : last ≡ pick (eqb (length dst) (length src)) (add_row src dst) dst

-- q times src added to dst; where it is refused, whatever q is, nothing changes
pub record Added (𝓕 : FieldLaws) (q : ℕ) (src dst : List ℕ) (r : Answer) (last : List ℕ) : Type 0 where
  pub answer : r ≡ lengths_answer src dst
  pub left : last ≡ pick (eqb (length dst) (length src)) (add_multiple 𝓕 q src dst) dst

-- q times one part of a buffer added to another; where it is refused, whatever q is, nothing changes
pub record PartAdded (𝓕 : FieldLaws) (q : ℕ) (p : Parts) (buffer : List ℕ) (r : Answer) (last : List ℕ) : Type 0 where
  pub answer : r ≡ parts_answer p buffer
  pub left : last ≡ pick (lie_apart p (length buffer)) (added_part 𝓕 q p buffer) buffer
