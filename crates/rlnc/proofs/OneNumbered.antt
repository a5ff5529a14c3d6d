-- The entries that hand an answer out as its number have one result: the layer below leaves one content for each answer.
-- Assumes nothing.
use mathlib.Core.Path.{◌≡◌}
use mathlib.Core.List.{List}
use Prim.Native.Nat.{ℕ}
use Rattle.answers.specs.Number.{Answer}
use Rattle.galois.specs.FieldLaws.{FieldLaws}
use Rattle.rows.specs.declared.Parts.{Parts}
use Rattle.rows.specs.Outcomes.{Summed, Added, PartAdded}
use Rattle.rows.specs.Combining.{Combined}
use Rattle.rows.proofs.OneResult.{one_summed, one_added, one_part_added}
use Rattle.rows.proofs.Combined.{one_combined}
use Rattle.encoder.specs.declared.Encoder.{Encoder}
use Rattle.encoder.specs.Entries.{Coded, CodedWhole}
use Rattle.encoder.proofs.OneResult.{one_coded, one_coded_whole}
use Rattle.recoder.specs.declared.Recoder.{Recoder}
use Rattle.recoder.specs.Entries.{Recoded}
use Rattle.recoder.proofs.OneResult.{one_recoded}
use Rattle.rlnc.specs.Numbered.{Numbered}
use Rattle.rlnc.proofs.OneResult.{one_numbered}

module _ {a : Answer} {r r' : ℕ} {last last' : List ℕ} where
  pub one_sum : (src dst : List ℕ) → Numbered (λ x. Summed src dst x last) a r → Numbered (λ x. Summed src dst x last') a r' → (r ≡ r') × (last ≡ last')
  one_sum src dst = one_numbered (λ l x. Summed src dst x l) (λ l m s t. (one_summed s t).1)

  module _ (𝓕 : FieldLaws) where
    pub one_multiple : (q : ℕ) (src dst : List ℕ) → Numbered (λ x. Added 𝓕 q src dst x last) a r → Numbered (λ x. Added 𝓕 q src dst x last') a r'
        → (r ≡ r') × (last ≡ last')
    one_multiple q src dst = one_numbered (λ l x. Added 𝓕 q src dst x l) (λ l m s t. (one_added s t).1)

    pub one_part : (q : ℕ) (p : Parts) (b : List ℕ) → Numbered (λ x. PartAdded 𝓕 q p b x last) a r → Numbered (λ x. PartAdded 𝓕 q p b x last') a r'
        → (r ≡ r') × (last ≡ last')
    one_part q p b = one_numbered (λ l x. PartAdded 𝓕 q p b x l) (λ l m s t. (one_part_added s t).1)

    pub one_combination : (rows numbers out : List ℕ) → Numbered (λ x. Combined 𝓕 rows numbers out x last) a r
        → Numbered (λ x. Combined 𝓕 rows numbers out x last') a r' → (r ≡ r') × (last ≡ last')
    one_combination rows numbers out = one_numbered (λ l x. Combined 𝓕 rows numbers out x l) (λ l m s t. (one_combined s t).1)

    module _ (e : Encoder) (block vector out : List ℕ) where
      pub one_payload : Numbered (λ x. Coded 𝓕 e block vector out x last) a r → Numbered (λ x. Coded 𝓕 e block vector out x last') a r'
          → (r ≡ r') × (last ≡ last')
      one_payload = one_numbered (λ l x. Coded 𝓕 e block vector out x l) (λ l m s t. (one_coded s t).1)

      pub one_piece : Numbered (λ x. CodedWhole 𝓕 e block vector out x last) a r → Numbered (λ x. CodedWhole 𝓕 e block vector out x last') a r'
          → (r ≡ r') × (last ≡ last')
      one_piece = one_numbered (λ l x. CodedWhole 𝓕 e block vector out x l) (λ l m s t. (one_coded_whole s t).1)

    pub one_recoding : (d : Recoder) (pieces vector out : List ℕ) → Numbered (λ x. Recoded 𝓕 d pieces vector out x last) a r
        → Numbered (λ x. Recoded 𝓕 d pieces vector out x last') a r' → (r ≡ r') × (last ≡ last')
    one_recoding d pieces vector out = one_numbered (λ l x. Recoded 𝓕 d pieces vector out x l) (λ l m s t. (one_recoded s t).1)
