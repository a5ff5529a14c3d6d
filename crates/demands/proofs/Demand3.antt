-- Demand 3: the rows of a fresh decoder are what the row rules make of the pieces taken, and for those it is proved (linear's RowRules). What
-- recovery reads off k rows is then the block.
-- Assumes nothing.
use mathlib.Core.Path.{◌≡◌, refl, sym, ap, ◌∙◌, subst}
use mathlib.Core.Logic.{◌↔◌}
use mathlib.Core.Bool.{Bool, true, false}
use mathlib.Core.List.{List, [], ◌∷◌, ◌++◌, map}
use Prim.Native.Nat.{ℕ, ◌*◌, ◌≤◌, ◌<◌}
use native.Mathlib.Nat.{pos_of_ne-zero}
use native.Mathlib.Omega.{arith}
use lib.Dec.{eqb}
use lib.ListN.{length, take, drop}
use borrow.Author.Tests.{eqb-true, eq-eqb, le-ltb}
use Rattle.std.specs.Prelude.{Result, Ok, Err}
use Rattle.answers.specs.Number.{number_of}
use Rattle.answers.specs.declared.RLNCError.{RLNCError}
use Rattle.answers.specs.declared.RLNCError.TheVariants.{InvalidDecodedDataFormat}
use Rattle.galois.specs.FieldLaws.{FieldLaws}
use Rattle.linear.specs.Blocks.{Block, Agrees, Unique}
use Rattle.linear.specs.Buffer.{rows_of, flat}
use Rattle.linear.proofs.RowRules.{demand_3, demand_3_recovery}
use Rattle.block.specs.declared.BrokenPadding.{BrokenPadding}
use Rattle.block.specs.Refusal.{if_ok, answered}
use Rattle.block.specs.Padding.{Breaks, Carries}
use Rattle.block.specs.Reading.{reading, answer_of, data_length}
use Rattle.block.proofs.Reading.{reads_data, reads_broken}
use Rattle.decoder.specs.declared.Decoder.{Decoder}
use Rattle.decoder.specs.Records.{k_of, l_of, f_of, rows_in, sound, bad_state, held_rows}
use Rattle.decoder.specs.Answers.{complete_values, recovered_values}
use Rattle.decoder.specs.Entries.{completed, block_in, recover_refusal, Recovery}
use Rattle.demands.specs.History.{History}
use Rattle.demands.specs.Demand3.{Demand3, Counters}
use Rattle.decoder.proofs.Counters.{held_count}
use Rattle.decoder.proofs.Sound.{shown}
use Rattle.demands.proofs.History.{Kept, kept}

-- the answer of the case, told by its values
pub closed_told : (c : Result Bool RLNCError) → (complete_values c ≡ 1 ∷ []) ↔ (c ≡ Ok true)
unfolding complete_values
closed_told (Ok true) = (λ e. refl, λ e. refl)
closed_told (Ok false) = (λ e. cc, λ e. cc)
closed_told (Err a) = (λ e. cc, λ e. cc)

module _ {𝓕 : FieldLaws} {k L : ℕ} {d : Decoder} {elements : List ℕ} {pieces : List (List ℕ)} (h : History 𝓕 k L d elements pieces) where
  abbrev it : Kept 𝓕 k L d elements pieces
  it = kept h

  fine : sound d ≡ true
  fine = shown d it.numbers

  pub told : completed d ≡ Ok (eqb (rows_in d) (k_of d))
  unfolding completed
  told = rw fine

  -- complete exactly with k rows
  pub complete_rows : (completed d ≡ Ok true) ↔ (length (held_rows d elements) ≡ k)
  complete_rows = (
    λ e. held_count d elements ∙ eqb-true (rows_in d) (k_of d) (same_test (sym told ∙ e)) ∙ it.same_k,
    λ e. told ∙ ap Ok (eq-eqb (rows_in d) (k_of d) (sym (held_count d elements) ∙ e ∙ sym it.same_k)),
  )
    where
      same_test : ◌≡◌ {A = Result Bool RLNCError} (Ok (eqb (rows_in d) (k_of d))) (Ok true) → eqb (rows_in d) (k_of d) ≡ true
      same_test e = cc

  module _ (block : List (List ℕ)) (b : Block k L block) (a : Agrees 𝓕 k L pieces block) where
    closes : (completed d ≡ Ok true) ↔ Unique 𝓕 k L pieces block
    closes =
        let long : 0 < L = subst (λ (n : ℕ). 0 < n) it.same_l (pos_of_ne-zero it.numbers.some_bytes) in
        let iff : (length (held_rows d elements) ≡ k) ↔ Unique 𝓕 k L pieces block = demand_3 𝓕 k L pieces (held_rows d elements) it.held block b a long in
        (λ e. iff.0 (complete_rows.0 e), λ u. complete_rows.1 (iff.1 u))

    module _ (c : completed d ≡ Ok true) where
      -- the payloads, in row order, are the block
      pub the_block : block_in d elements ≡ flat block
      unfolding block_in held_rows
      the_block =
          let all : rows_in d ≡ k_of d = sym (held_count d elements) ∙ complete_rows.0 c ∙ sym it.same_k in
          ap (λ (n : ℕ). flat (map (drop (k_of d)) (rows_of (f_of d) n elements))) (sym all)
          ∙ ap (λ (n : ℕ). flat (map (drop n) (held_rows d elements))) it.same_k
          ∙ ap flat (demand_3_recovery 𝓕 k L pieces (held_rows d elements) it.held block b a (complete_rows.0 c))

      pub recovers : (M room : ℕ) → k * L ≤ room → recover_refusal M d elements room ≡ answer_of (reading M (flat block))
      unfolding recover_refusal bad_state
      recovers M room w =
          let all : rows_in d ≡ k_of d = sym (held_count d elements) ∙ complete_rows.0 c ∙ sym it.same_k in
          let wide : k_of d * l_of d ≤ room = rw (it.same_k, it.same_l) w in
          rw (fine, le-ltb (length elements) (k_of d * f_of d) it.room, eq-eqb (rows_in d) (k_of d) all, le-ltb room (k_of d * l_of d) wide, the_block)

      module _ (M : ℕ) (out last : List ℕ) (r : Result ℕ RLNCError) (w : k * L ≤ length out) (g : Recovery M d elements out r last) where
        -- what recovery tells, by the block alone
        by_block : (x : Result ℕ BrokenPadding) → reading M (flat block) ≡ x
            → (r ≡ answered (answer_of x) (data_length x)) × (last ≡ if_ok (answer_of x) (take (data_length x) (flat block) ++ drop (data_length x) out) out)
        by_block x e =
            (g.result ∙ rw (recovers M (length out) w, the_block, e), g.left ∙ rw (recovers M (length out) w, the_block, e))

        data_back : (bytes : List ℕ) → Carries M (flat block) bytes → (r ≡ Ok (length bytes)) × (last ≡ bytes ++ drop (length bytes) out)
        unfolding answer_of data_length
        data_back bytes y =
            let (e, front) = (reads_data M (flat block) bytes).0 y in
            let (p, q) = by_block (Ok (length bytes)) e in
            (p, q ∙ ap (λ (l : List ℕ). l ++ drop (length bytes) out) front)

        broken : Breaks M (flat block) → (r ≡ Err InvalidDecodedDataFormat) × (last ≡ out)
        broken y =
            let (p, q) = by_block (reading M (flat block)) refl in
            let e : answer_of (reading M (flat block)) ≡ Err InvalidDecodedDataFormat = (reads_broken M (flat block)).0 y in
            (rw e at p, rw e at q)

        -- a number of 11 is the refusal of a block that breaks the rule
        eleven : number_of r ≡ 11 → Breaks M (flat block)
        unfolding answer_of
        eleven z = (reads_broken M (flat block)).1 (go (reading M (flat block)) refl)
          where
            go : (x : Result ℕ BrokenPadding) → reading M (flat block) ≡ x → answer_of (reading M (flat block)) ≡ Err InvalidDecodedDataFormat
            go (Ok n) e = let never : ◌≡◌ {A = ℕ} 0 11 = sym (ap number_of (by_block (Ok n) e).0) ∙ z in absurd (omega arith)
            go (Err x) e = ap answer_of e

  pub demand3 : (M : ℕ) (block : List (List ℕ)) → Block k L block → Agrees 𝓕 k L pieces block → Demand3 𝓕 M k L d elements pieces block
  unfolding recovered_values
  demand3 M block b a = record {
    closes = (λ e. (closes block b a).0 ((closed_told (completed d)).0 e), λ u. (closed_told (completed d)).1 ((closes block b a).1 u));
    yields = λ e {out} {last} {bytes} {r} w g y.
        let (p, q) = data_back block b a ((closed_told (completed d)).0 e) M out last r w g bytes y in
        (ap number_of p, ap recovered_values p, q);
    breaks = λ e {out} {last} {r} w g.
        let c = (closed_told (completed d)).0 e in (
          (eleven block b a c M out last r w g, λ y. ap number_of (broken block b a c M out last r w g y).0),
          λ y. (broken block b a c M out last r w g y).1,
        );
  }

  pub counters : Counters k d pieces
  counters = record { taken = it.taken; few = subst (λ (n : ℕ). rows_in d ≤ n) it.same_k it.numbers.rows_pieces; fewer = it.numbers.rows_taken }
