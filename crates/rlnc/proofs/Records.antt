-- A record that was made, handed out as its number and a number of it; a piece that was taken.
-- Assumes nothing.
use mathlib.Core.Path.{◌≡◌, refl, sym, ap, ◌∙◌, subst}
use mathlib.Core.List.{List}
use Prim.Native.Nat.{ℕ}
use lib.ListN.{length}
use Rattle.std.specs.Prelude.{Result, Ok, Err, IsOkAnd, MatchResult}
use Rattle.std.specs.Result.{result_unwrap_or}
use Rattle.answers.specs.Number.{Answer, number_of}
use Rattle.answers.specs.declared.RLNCError.{RLNCError}
use Rattle.galois.specs.FieldLaws.{FieldLaws}
use Rattle.block.specs.Refusal.{if_ok, answered}
use Rattle.encoder.specs.declared.Encoder.{Encoder}
use Rattle.encoder.specs.Made as MadeOfEncoder
use Rattle.encoder.specs.Entries.{padded_refusal, NewPadded, unpadded_refusal, NewUnpadded}
use Rattle.recoder.specs.declared.Recoder.{Recoder}
use Rattle.recoder.specs.Made as MadeOfRecoder
use Rattle.recoder.specs.Entries as EntriesOfRecoder
use Rattle.decoder.specs.declared.Decoder.{Decoder}
use Rattle.decoder.specs.declared.Taken.{Taken}
use Rattle.decoder.specs.Records.{rows_in, taken_by}
use Rattle.decoder.specs.Answers.{taken_number, kept}
use Rattle.decoder.specs.Entries.{decoder_of, new_refusal, NewDecoder, Decoded, Recovery}
use Rattle.decoder.proofs.Calls.{number_is, record_is, buffer_is}
use Rattle.rlnc.specs.Given.{Given}
use Rattle.rlnc.specs.Records.{EncoderMade, UnpaddedMade, RecoderMade, DecoderMade, PieceTaken, DataRecovered}
use Rattle.rlnc.proofs.Given.{part_of, number_is as number_answered, given_number, given_value}

pub if_ok_ap : {A B : Type 0} (f : A → B) (a : Answer) (x y : A) → f (if_ok a x y) ≡ if_ok a (f x) (f y)
if_ok_ap f (Ok z) x y = refl
if_ok_ap f (Err e) x y = refl

-- ---- what `map` leaves, where its closure picks the number that is handed out

module _ {P : Encoder → ℕ → Type 0} {m : Result Encoder RLNCError} {k L r L' : ℕ} {c : Result ℕ RLNCError} where
  pub encoder_made : {M : ℕ} {bytes block last : List ℕ} → NewPadded M bytes block k m last → ((e : Encoder) (x : ℕ) → P e x → x ≡ e.piece_byte_len)
      → MatchResult m (λ e. IsOkAnd c (P e)) (λ e. c ≡ Err e) → Given c L r L' → EncoderMade M bytes block k L r L' last
  unfolding MadeOfEncoder.made
  encoder_made {bytes} {block} o h s g =
      let e = part_of (λ (e : Encoder). e.piece_byte_len) (padded_refusal (length bytes) k (length block)) _ h o.result s in
      record { number = given_number _ _ e g; length_stored = given_value _ _ e g; left = o.left }

  pub unpadded_made : {n : ℕ} → NewUnpadded n k m → ((e : Encoder) (x : ℕ) → P e x → x ≡ e.piece_byte_len)
      → MatchResult m (λ e. IsOkAnd c (P e)) (λ e. c ≡ Err e) → Given c L r L' → UnpaddedMade n k L r L'
  unfolding MadeOfEncoder.made
  unpadded_made {n} o h s g =
      let e = part_of (λ (e : Encoder). e.piece_byte_len) (unpadded_refusal n k) _ h o.result s in
      record { number = given_number _ _ e g; length_stored = given_value _ _ e g }

pub recoder_made : {P : Recoder → ℕ → Type 0} {n width k m r m' : ℕ} {d : Result Recoder RLNCError} {c : Result ℕ RLNCError}
    → EntriesOfRecoder.NewRecoder n width k d → ((d : Recoder) (x : ℕ) → P d x → x ≡ d.num_pieces_received)
    → MatchResult d (λ x. IsOkAnd c (P x)) (λ e. c ≡ Err e) → Given c m r m' → RecoderMade n width k m r m'
unfolding MadeOfRecoder.made
recoder_made {n} {width} {k} o h s g =
    let e = part_of (λ (x : Recoder). x.num_pieces_received) (EntriesOfRecoder.new_refusal n width k) _ h o.result s in
    record { number = given_number _ _ e g; count_stored = given_value _ _ e g }

-- ----

pub recovered_given : {M : ℕ} {d : Decoder} {elements out last : List ℕ} {n r n' : ℕ} {c : Result ℕ RLNCError} → Recovery M d elements out c last
    → Given c n r n' → DataRecovered M d elements out n r n' last
recovered_given o g = record { number = given_number _ _ o.result g; length_stored = given_value _ _ o.result g; left = o.left }

pub piece_taken : {𝓕 : FieldLaws} {d d' : Decoder} {elements full last : List ℕ} {m : Result Taken RLNCError} {r : ℕ} → Decoded 𝓕 d elements full m last
    → (e : Decoder) → d ≡ d' → r ≡ taken_number m → e ≡ kept d m → PieceTaken 𝓕 d' elements full r (rows_in e) (taken_by e) last
piece_taken {𝓕} {elements = elements} {full} {last} {r = r} o e same n k = subst (λ (x : Decoder). PieceTaken 𝓕 x elements full r (rows_in e) (taken_by e) last) same (record {
  number = n ∙ number_is o;
  rows_stored = ap rows_in (k ∙ record_is o);
  taken_stored = ap taken_by (k ∙ record_is o);
  left = buffer_is o;
})

-- Named in docs/PORT.md; no proof here cites them.

-- what then stands where a count stood
unfoldable pub rows_or : ℕ → Result Decoder RLNCError → ℕ
rows_or rows (Ok d) = rows_in d
rows_or rows (Err e) = rows

unfoldable pub taken_or : ℕ → Result Decoder RLNCError → ℕ
taken_or taken (Ok d) = taken_by d
taken_or taken (Err e) = taken

rows_answered : (a : Answer) (d : Decoder) (rows : ℕ) → rows_or rows (answered a d) ≡ if_ok a (rows_in d) rows
unfolding rows_or
rows_answered (Ok z) d rows = refl
rows_answered (Err e) d rows = refl

taken_of_answered : (a : Answer) (d : Decoder) (taken : ℕ) → taken_or taken (answered a d) ≡ if_ok a (taken_by d) taken
unfolding taken_or
taken_of_answered (Ok z) d taken = refl
taken_of_answered (Err e) d taken = refl

pub decoder_made : {L k : ℕ} {elements last : List ℕ} {rows taken r : ℕ} {m : Result Decoder RLNCError} → NewDecoder L k elements m last
    → (c : Result Decoder RLNCError) → m ≡ c → r ≡ number_of c → DecoderMade L k elements rows taken r (rows_or rows c) (taken_or taken c) last
decoder_made {L} {k} {elements} {last} {rows} {taken} o c e n = record {
  number = n ∙ ap number_of (sym e ∙ o.result) ∙ number_answered a (decoder_of k L 0 0);
  rows_stored = ap (rows_or rows) (sym e ∙ o.result) ∙ rows_answered a (decoder_of k L 0 0) rows;
  taken_stored = ap (taken_or taken) (sym e ∙ o.result) ∙ taken_of_answered a (decoder_of k L 0 0) taken;
  left = o.left;
}
  where
    a : Answer
    a = new_refusal L k (length elements)

pub data_recovered : {M : ℕ} {d : Decoder} {elements out last : List ℕ} {n r : ℕ} {m : Result ℕ RLNCError} → Recovery M d elements out m last
    → (c : Result ℕ RLNCError) → m ≡ c → r ≡ number_of c → DataRecovered M d elements out n r (result_unwrap_or c n) last
data_recovered {M} {d} {elements} {out} {last} o c e h =
    recovered_given (subst (λ (x : Result ℕ RLNCError). Recovery M d elements out x last) e o) (record { number = h; stored = refl })
