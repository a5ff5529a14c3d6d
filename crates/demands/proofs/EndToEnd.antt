-- From data to data: what senders and relays send is truthful for the sender's block, a complete decoder recovers that block, and the block, padded
-- from the data, carries it.
-- Assumes nothing.
use mathlib.Core.Path.{◌≡◌, refl, sym, ap, ◌∙◌, subst}
use mathlib.Core.Logic.{◌≢◌}
use mathlib.Core.List.{List, [], ◌∷◌, ◌++◌}
use Prim.Native.Nat.{ℕ, suc, ◌*◌, ◌≤◌, ◌<◌}
use native.Mathlib.Nat.{pos_of_ne-zero}
use native.Mathlib.Omega.{arith}
use lib.Dec.{eqb}
use lib.ListN.{length, get_or, take, drop, length-append}
use borrow.Author.Tests.{eqb-false}
use lib.Seq.{take_at}
use Rattle.std.specs.Prelude.{Result, Ok, Err}
use Rattle.answers.specs.Number.{Answer, number_of}
use Rattle.answers.specs.declared.RLNCError.{RLNCError}
use Rattle.answers.specs.declared.RLNCError.TheVariants.{PieceCountZero, DataLengthZero}
use Rattle.galois.specs.FieldLaws.{FieldLaws}
use Rattle.linear.specs.All.{All, none, more, Bytes}
use Rattle.linear.specs.Pieces.{Truthful}
use Rattle.linear.specs.Blocks.{Agrees}
use Rattle.linear.specs.Buffer.{rows_of, flat}
use Rattle.linear.proofs.All.{all_imp}
use Rattle.linear.proofs.Buffer.{length_rows_of}
use Rattle.linear.proofs.Flat.{flat_front}
use Rattle.block.specs.Refusal.{if_ok, answered}
use Rattle.block.specs.Padding.{piece_length, padded, Carries}
use Rattle.block.proofs.Chosen.{passes}
use Rattle.block.proofs.Filling.{length_padded}
use Rattle.block.proofs.Reading.{round_trip}
use Rattle.block.proofs.RowBytes.{block_of_lem}
use Rattle.encoder.specs.declared.Encoder.{Encoder}
use Rattle.encoder.specs.Made.{made}
use Rattle.encoder.specs.Entries.{padded_refusal, NewPadded}
use Rattle.encoder.proofs.Truthful.{coded_truthful}
use Rattle.recoder.proofs.Truthful.{payload_of, recoded_truthful}
use Rattle.decoder.specs.declared.Decoder.{Decoder}
use Rattle.decoder.specs.Answers.{recovered_values}
use Rattle.decoder.specs.Entries.{Recovery}
use Rattle.demands.specs.Demand3.{Closed}
use Rattle.demands.specs.History.{History}
use Rattle.demands.specs.Sent.{Sent, coded, recoded}
use Rattle.demands.proofs.Demand3.{demand3}

all_below : {P : List ℕ → Type 0} (xs : List (List ℕ)) → ((i : ℕ) → i < length xs → P (get_or xs i [])) → All P xs
all_below [] h = none
all_below (x ∷ xs) h = more (h 0 (omega arith)) (all_below xs (λ i l. h (suc i) (omega arith)))

module _ (𝓕 : FieldLaws) (e : Encoder) (block : List ℕ) (b : Bytes block) where
  abbrev its_rows : List (List ℕ)
  its_rows = rows_of e.piece_byte_len e.piece_count block

  pub sent_truthful : {full : List ℕ} → Sent 𝓕 e block full → Truthful 𝓕 e.piece_count e.piece_byte_len its_rows full
  unfolding Agrees
  sent_truthful (coded {vector} {out} {full} c) = coded_truthful 𝓕 e block vector out full c b
  sent_truthful (recoded {d} {pieces} {numbers} {out} {full} k w each c) =
      let rows : List (List ℕ) = rows_of d.full_coded_piece_byte_len d.num_pieces_received pieces in
      let count : length rows ≡ d.num_pieces_received = length_rows_of d.full_coded_piece_byte_len d.num_pieces_received pieces in
      let same : payload_of d ≡ e.piece_byte_len = omega (arith, k, w) in
      let all : All (Truthful 𝓕 e.piece_count e.piece_byte_len its_rows) rows = all_below rows (λ i l. sent_truthful (each i (omega (arith, count)))) in
      let agreed : Agrees 𝓕 d.num_pieces_coded_together (payload_of d) rows its_rows =
      subst (λ (n : ℕ). Agrees 𝓕 n (payload_of d) rows its_rows) (sym k) (subst (λ (n : ℕ). Agrees 𝓕 e.piece_count n rows its_rows) (sym same) all) in
      subst (λ (n : ℕ). Truthful 𝓕 n e.piece_byte_len its_rows full) k
      (subst (λ (n : ℕ). Truthful 𝓕 d.num_pieces_coded_together n its_rows full) same (recoded_truthful 𝓕 d pieces numbers out full c its_rows agreed))

-- ---- the sender's block

record Padded (M : ℕ) (bytes : List ℕ) (k : ℕ) (e : Encoder) (block : List ℕ) : Type 0 where
  pieces : e.piece_count ≡ k
  size : e.piece_byte_len ≡ piece_length (length bytes) k
  some_pieces : 0 < k
  some_data : 0 < length bytes
  rest : List ℕ
  is : block ≡ padded M k bytes ++ rest

padded_of : (M : ℕ) (bytes buffer : List ℕ) (k : ℕ) (e : Encoder) (block : List ℕ) → NewPadded M bytes buffer k (Ok e) block → Padded M bytes k e block
unfolding made padded_refusal
padded_of M bytes buffer k e block n = go (padded_refusal (length bytes) k (length buffer)) refl n.result n.left
  where
    L : ℕ
    L = piece_length (length bytes) k

    go : (a : Answer) → padded_refusal (length bytes) k (length buffer) ≡ a → Ok e ≡ answered a (record { piece_count = k; piece_byte_len = L })
        → block ≡ if_ok a (padded M k bytes ++ drop (k * L) buffer) buffer → Padded M bytes k e block
    go (Ok z) ok p l =
        let same : e ≡ record { piece_count = k; piece_byte_len = L } = cc in
        let (n₁, ok₁) = passes (eqb (length bytes) 0) (Err DataLengthZero) _ (omega arith) ok in
        let (n₂, ok₂) = passes (eqb k 0) (Err PieceCountZero) _ (omega arith) ok₁ in
        record {
          pieces = ap (λ (x : Encoder). x.piece_count) same;
          size = ap (λ (x : Encoder). x.piece_byte_len) same;
          some_pieces = pos_of_ne-zero (eqb-false k 0 n₂);
          some_data = pos_of_ne-zero (eqb-false (length bytes) 0 n₁);
          rest = drop (k * L) buffer;
          is = l;
        }
    go (Err x) q p l = let never : ◌≡◌ {A = ℕ} 0 1 = cc in absurd (omega arith)

-- the rows of the block, one after the other, are the padded data
padded_rows : (M : ℕ) (bytes : List ℕ) (k : ℕ) (e : Encoder) (block : List ℕ) → Padded M bytes k e block
    → flat (rows_of (piece_length (length bytes) k) k block) ≡ padded M k bytes
padded_rows M bytes k e block p =
    flat_front (piece_length (length bytes) k) k block ∙ ap (take (k * piece_length (length bytes) k)) p.is
    ∙ take_at (padded M k bytes) p.rest (k * piece_length (length bytes) k) (length_padded M k bytes p.some_pieces)

-- ---- there and back

-- a fresh decoder of the block's size that took only such pieces and is complete gives the data back
pub end_to_end : {𝓕 : FieldLaws} {M k : ℕ} {bytes buffer block : List ℕ} {e : Encoder} → M ≢ 0 → Bytes block → NewPadded M bytes buffer k (Ok e) block
    → {d : Decoder} {elements : List ℕ} {pieces : List (List ℕ)} → History 𝓕 k (piece_length (length bytes) k) d elements pieces → All (Sent 𝓕 e block) pieces
    → Closed d → {out last : List ℕ} {r : Result ℕ RLNCError} → k * piece_length (length bytes) k ≤ length out → Recovery M d elements out r last
    → (number_of r ≡ 0) × (recovered_values r ≡ length bytes ∷ []) × (last ≡ bytes ++ drop (length bytes) out)
unfolding Agrees
end_to_end {𝓕} {M} {k} {bytes} {buffer} {block} {e} m b n {d} {elements} {pieces} h sent c {out} {last} {r} w g =
    let p : Padded M bytes k e block = padded_of M bytes buffer k e block n in
    let L : ℕ = piece_length (length bytes) k in
    let rows : List (List ℕ) = rows_of L k block in
    let long : k * L ≤ length block = omega (arith, ap length p.is, length-append (padded M k bytes) p.rest, length_padded M k bytes p.some_pieces) in
    let true_for : All (Truthful 𝓕 k L rows) pieces =
    all_imp (λ full s. subst (λ (x : Encoder). Truthful 𝓕 x.piece_count x.piece_byte_len (rows_of x.piece_byte_len x.piece_count block) full) (same p) (sent_truthful 𝓕 e block b s)) sent in
    let carries : Carries M (flat rows) bytes = subst (λ (l : List ℕ). Carries M l bytes) (sym (padded_rows M bytes k e block p)) (round_trip M m bytes p.some_data k) in
    (demand3 h M rows (block_of_lem k L block long b) true_for).yields c w g carries
  where
    same : Padded M bytes k e block → e ≡ record { piece_count = k; piece_byte_len = piece_length (length bytes) k }
    same p = λ i. record { piece_count = p.pieces i; piece_byte_len = p.size i }
