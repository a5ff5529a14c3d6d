-- Each entry's outcome by the answer of its order: Ok makes what the definition says, and a refusal leaves all as it was.
-- Assumes nothing.
use mathlib.Core.Path.{◌≡◌, refl, sym, ap}
use mathlib.Core.Bool.{Bool, true, false}
use mathlib.Core.List.{List, ◌++◌}
use Prim.Native.Nat.{ℕ, ◌*◌}
use lib.ListN.{length, drop}
use Rattle.std.specs.Prelude.{Ok, Err}
use Rattle.answers.specs.Number.{Answer}
use Rattle.answers.specs.declared.RLNCError.{RLNCError}
use Rattle.answers.specs.declared.RLNCError.TheVariants.{SizeOverLimit}
use Rattle.galois.specs.FieldLaws.{FieldLaws}
use Rattle.linear.specs.Choice.{pick}
use Rattle.linear.specs.Buffer.{rows_of}
use Rattle.linear.specs.Pieces.{combine, encode}
use Rattle.block.specs.Padding.{piece_length, padded}
use Rattle.encoder.specs.declared.Encoder.{Encoder}
use Rattle.encoder.specs.Made.{made}
use Rattle.encoder.specs.Entries.{padded_refusal, NewPadded, code_refusal, Coded, code_whole_refusal, CodedWhole}

-- an encoder that was made is of these sizes, within the limits
pub made_of : {k L : ℕ} {e : Encoder} (over : Bool) → Ok e ≡ made (pick over (Err SizeOverLimit) (Ok tt)) k L
    → (over ≡ false) × (e ≡ record { piece_count = k; piece_byte_len = L })
unfolding made
made_of true h = (cc, cc)
made_of false h = (refl, cc)

module _ {M : ℕ} {bytes block : List ℕ} {k : ℕ} where
  pub padded_made : {L : ℕ} {last : List ℕ} → padded_refusal (length bytes) k (length block) ≡ Ok tt → piece_length (length bytes) k ≡ L
      → last ≡ padded M k bytes ++ drop (k * piece_length (length bytes) k) block
      → NewPadded M bytes block k (Ok (record { piece_count = k; piece_byte_len = L })) last
  unfolding made
  padded_made {L} {last} e l f = record { result = rw e (ap (λ (x : ℕ). Ok (record { piece_count = k; piece_byte_len = x })) (sym l)); left = rw e f }

module _ {𝓕 : FieldLaws} {e : Encoder} {block vector out : List ℕ} where
  pub code_made : {r : Answer} {last : List ℕ} → code_refusal e (length block) (length vector) (length out) ≡ Ok tt → r ≡ Ok tt
      → last ≡ combine 𝓕 e.piece_byte_len vector (rows_of e.piece_byte_len e.piece_count block) → Coded 𝓕 e block vector out r last
  code_made h r l = record { result = rw h r; left = rw h l }

  pub code_whole_made : {r : Answer} {last : List ℕ} → code_whole_refusal e (length block) (length vector) (length out) ≡ Ok tt → r ≡ Ok tt
      → last ≡ encode 𝓕 e.piece_byte_len (rows_of e.piece_byte_len e.piece_count block) vector → CodedWhole 𝓕 e block vector out r last
  code_whole_made h r l = record { result = rw h r; left = rw h l }

-- Named in docs/PORT.md; no proof here cites it.

pub padded_refused : {M : ℕ} {bytes block : List ℕ} {k : ℕ} (e : RLNCError) → padded_refusal (length bytes) k (length block) ≡ Err e
    → NewPadded M bytes block k (Err e) block
unfolding made
padded_refused e h = record { result = rw h refl; left = rw h refl }
