-- A piece that no test refuses is added as a row and reduced: the matrix refuses neither, and leaves the rows that the record then counts.
-- Assumes nothing.
use mathlib.Core.Path.{◌≡◌, sym, ap, subst, ◌∙◌}
use mathlib.Core.Bool.{true}
use mathlib.Core.List.{List}
use Prim.Native.Nat.{ℕ, ◌+◌}
use native.Mathlib.Omega.{arith}
use lib.ListN.{length}
use borrow.Author.Tests.{eq-eqb, ne_eqb, lt-ltb, le-leb}
use Rattle.std.specs.Prelude.{Result, Ok}
use Rattle.answers.specs.declared.RLNCError.{RLNCError}
use Rattle.galois.specs.FieldLaws.{FieldLaws}
use Rattle.linear.specs.Buffer.{holding}
use Rattle.decoder_matrix.specs.declared.DecoderMatrix.{DecoderMatrix}
use Rattle.decoder_matrix.specs.Matrix.{sizes_fit, with_rows}
use Rattle.decoder_matrix.specs.Outcomes.{RowAdded, Reduced}
use Rattle.decoder_matrix.proofs.Sizes.{fitting}
use Rattle.decoder_matrix.proofs.Taking as matrix
use Rattle.decoder.specs.declared.Decoder.{Decoder}
use Rattle.decoder.specs.declared.Taken.TheVariants.{Useful, NotUseful}
use Rattle.decoder.specs.Records.{k_of, l_of, f_of, rows_in, taken_by, held_rows}
use Rattle.decoder.specs.Entries.{decoder_of, take_refusal, rows_after, after, taking, Decoded}
use Rattle.decoder.proofs.Accepted.{Accepted}
use Rattle.decoder.proofs.Outcomes.{take_made}

-- the matrix beside the record
abbrev pub matrix_of : Decoder → DecoderMatrix
matrix_of d = record { num_pieces_coded_together = k_of d; rows = rows_in d; cols = f_of d }

module _ (d : Decoder) (elements full : List ℕ) (a : Accepted d (length elements) (length full)) where
  fits : sizes_fit (matrix_of d) (length elements) ≡ true
  fits = fitting (matrix_of d) (length elements) (omega (arith, a.missing)) (omega arith) ∙ le-leb _ _ a.held.room

  pub added : {r : Result DecoderMatrix RLNCError} {mid : List ℕ} → RowAdded (matrix_of d) elements full r mid → r ≡ Ok (with_rows (matrix_of d) (rows_in d + 1))
  added add = rw (fits, lt-ltb (rows_in d) (k_of d) a.missing, eq-eqb (length full) (f_of d) a.whole) at add.answer

  -- the rules, on the matrix m that is the longer by the piece
  module _ (𝓕 : FieldLaws) {r s : Result DecoderMatrix RLNCError} {m : DecoderMatrix} {mid last : List ℕ}
      (add : RowAdded (matrix_of d) elements full r mid) (e : r ≡ Ok m) (rules : Reduced 𝓕 m mid s last) where
    both : (s ≡ Ok (with_rows (matrix_of d) (length (rows_after 𝓕 d elements full)))) × (last ≡ holding (k_of d) (f_of d) (rows_after 𝓕 d elements full) elements)
    unfolding rows_after held_rows
    both =
        let t = matrix.taking 𝓕 (subst (λ (x : Result DecoderMatrix RLNCError). RowAdded (matrix_of d) elements full x mid) e add) rules in
        (t.0, t.1)

    pub reduced : s ≡ Ok (with_rows (matrix_of d) (length (rows_after 𝓕 d elements full)))
    reduced = both.0

    -- the record counts the rows that are left
    module _ (n : DecoderMatrix) (f : s ≡ Ok n) where
      counts : length (rows_after 𝓕 d elements full) ≡ n.rows
      counts =
          let same : with_rows (matrix_of d) (length (rows_after 𝓕 d elements full)) ≡ n = cc reduced in
          ap (λ (x : DecoderMatrix). x.rows) same

      next : decoder_of (k_of d) (l_of d) n.rows (taken_by d + 1) ≡ after 𝓕 d elements full
      unfolding after
      next = ap (λ (c : ℕ). decoder_of (k_of d) (l_of d) c (taken_by d + 1)) (sym counts)

      pub as_many : take_refusal d (length elements) (length full) ≡ Ok tt → n.rows ≡ rows_in d
          → Decoded 𝓕 d elements full (Ok (NotUseful (decoder_of (k_of d) (l_of d) n.rows (taken_by d + 1)))) last
      unfolding taking
      as_many o q = take_made o (rw (eq-eqb _ _ (counts ∙ q)) (ap NotUseful next)) both.1

      pub others : take_refusal d (length elements) (length full) ≡ Ok tt → (n.rows ≡ rows_in d → ⊥)
          → Decoded 𝓕 d elements full (Ok (Useful (decoder_of (k_of d) (l_of d) n.rows (taken_by d + 1)))) last
      unfolding taking
      others o q = take_made o (rw (ne_eqb _ _ (λ h. q (sym counts ∙ h))) (ap Useful next)) both.1
