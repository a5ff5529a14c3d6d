-- Two answers differ exactly if their numbers do: a list by number gives each case back.
-- Assumes nothing.
use mathlib.Core.Path.{◌≡◌, refl, sym, ap, ◌∙◌}
use mathlib.Core.Logic.{◌↔◌}
use mathlib.Core.List.{List, [], ◌∷◌}
use Prim.Native.Nat.{ℕ}
use lib.ListN.{get_or}
use Rattle.std.specs.Prelude.{Ok, Err}
use Rattle.answers.specs.Number.{Answer, number_of}
use Rattle.answers.specs.declared.RLNCError.TheVariants.{CodingVectorLengthMismatch, DataLengthMismatch, PieceCountZero, DataLengthZero, PieceLengthZero, NotEnoughPiecesToRecode, PieceLengthTooShort, PieceNotUseful, ReceivedAllPieces, NotAllPiecesReceivedYet, InvalidDecodedDataFormat, InvalidPieceLength, InvalidOutputBuffer, SizeOverLimit, NoRoom, BadState, TooManyTaken, UnknownKind, CutRecord, MixedKinds}

-- the cases by number; 14 to 19 stand for nothing
abbrev by_number : List Answer
by_number =
    Ok tt ∷ Err CodingVectorLengthMismatch ∷ Err DataLengthMismatch ∷ Err PieceCountZero ∷ Err DataLengthZero ∷ Err PieceLengthZero ∷ Err NotEnoughPiecesToRecode ∷ Err PieceLengthTooShort ∷ Err PieceNotUseful ∷ Err ReceivedAllPieces ∷ Err NotAllPiecesReceivedYet ∷ Err InvalidDecodedDataFormat ∷ Err InvalidPieceLength ∷ Err InvalidOutputBuffer ∷ Ok tt ∷ Ok tt ∷ Ok tt ∷ Ok tt ∷ Ok tt ∷ Ok tt ∷ Err SizeOverLimit ∷ Err NoRoom ∷ Err BadState ∷ Err TooManyTaken ∷ Err UnknownKind ∷ Err CutRecord ∷ Err MixedKinds ∷ []

back : (a : Answer) → get_or by_number (number_of a) (Ok tt) ≡ a
back (Ok tt) = refl
back (Err CodingVectorLengthMismatch) = refl
back (Err DataLengthMismatch) = refl
back (Err PieceCountZero) = refl
back (Err DataLengthZero) = refl
back (Err PieceLengthZero) = refl
back (Err NotEnoughPiecesToRecode) = refl
back (Err PieceLengthTooShort) = refl
back (Err PieceNotUseful) = refl
back (Err ReceivedAllPieces) = refl
back (Err NotAllPiecesReceivedYet) = refl
back (Err InvalidDecodedDataFormat) = refl
back (Err InvalidPieceLength) = refl
back (Err InvalidOutputBuffer) = refl
back (Err SizeOverLimit) = refl
back (Err NoRoom) = refl
back (Err BadState) = refl
back (Err TooManyTaken) = refl
back (Err UnknownKind) = refl
back (Err CutRecord) = refl
back (Err MixedKinds) = refl

pub numbers_tell : (a b : Answer) → (a ≡ b) ↔ (number_of a ≡ number_of b)
numbers_tell a b = (ap number_of, λ e. sym (back a) ∙ ap (λ (n : ℕ). get_or by_number n (Ok tt)) e ∙ back b)
