-- The paper's table of answer numbers. An answer is `Ok`, which has the number 0, or an error.
use Rattle.std.specs.Prelude.{ℕ, Result, Ok, Err, ⊤}
use Rattle.answers.specs.declared.RLNCError.{RLNCError}
use Rattle.answers.specs.declared.RLNCError.TheVariants.{CodingVectorLengthMismatch, DataLengthMismatch, PieceCountZero, DataLengthZero, PieceLengthZero, NotEnoughPiecesToRecode, PieceLengthTooShort, PieceNotUseful, ReceivedAllPieces, NotAllPiecesReceivedYet, InvalidDecodedDataFormat, InvalidPieceLength, InvalidOutputBuffer, SizeOverLimit, NoRoom, BadState, TooManyTaken, UnknownKind, CutRecord, MixedKinds}

abbrev pub code_of : RLNCError → ℕ
code_of CodingVectorLengthMismatch = 1
code_of DataLengthMismatch = 2
code_of PieceCountZero = 3
code_of DataLengthZero = 4
code_of PieceLengthZero = 5
code_of NotEnoughPiecesToRecode = 6
code_of PieceLengthTooShort = 7
code_of PieceNotUseful = 8
code_of ReceivedAllPieces = 9
code_of NotAllPiecesReceivedYet = 10
code_of InvalidDecodedDataFormat = 11
code_of InvalidPieceLength = 12
code_of InvalidOutputBuffer = 13
code_of SizeOverLimit = 20
code_of NoRoom = 21
code_of BadState = 22
code_of TooManyTaken = 23
code_of UnknownKind = 24
code_of CutRecord = 25
code_of MixedKinds = 26

-- the answer of a function with nothing else to hand out
abbrev pub Answer : Type 0
Answer = Result ⊤ RLNCError

-- the number of what a function answers, whatever else it hands out
abbrev pub number_of : {A : Type 0} → Result A RLNCError → ℕ
number_of (Ok x) = 0
number_of (Err e) = code_of e
