-- `decoder_matrix::rules::Held::pivot` meets its contract: the byte that the search reads in row j is the entry (j, i).
use Rattle.std.proofs.Common.{ℕ, ◌≡◌, ◌+◌, ◌*◌, ◌≤◌, ◌<◌, length, get_or, Option, Some, None, rules, tests, arith, sym, ◌∙◌}
use Rattle.std.specs.Prelude.{MatchOption}
use Rattle.std.proofs.lemmas.Iterator.{first_from_Range, serves_from_Range}
use Rattle.std.proofs.lemmas.List.{get_or_read}
use Rattle.linear.specs.Rows.{entry, pivot_from}
use Rattle.linear.proofs.Buffer.{length_rows_of, entry_at}
use Rattle.decoder_matrix.specs.declared.rules.Held.{Held}
use Rattle.decoder_matrix.specs.Steps.{rows_of_held, IsPivot}
use Rattle.decoder_matrix.proofs.Sizes.{column_in, row_in}
use Rattle.decoder_matrix.proofs.Passes.{search_ends, search_finds}
use Rattle.decoder_matrix.proofs.rules.Held.pivot.Goals as goal

module _ (h : Held) (i : ℕ) (inside : i < h.matrix.rows) where
  abbrev byte : ℕ → ℕ
  byte j = get_or h.elements.now (j * h.matrix.cols + i) 0

  read : (j : ℕ) → j < h.matrix.rows → entry (rows_of_held h) j i ≡ byte j
  read j k = entry_at h.matrix.cols h.matrix.rows j i h.elements.now k (column_in h.matrix (length h.elements.now) h.fits i inside)

  found : (r : Option ℕ)
      → MatchOption r ((j : ℕ) → i ≤ j → j < h.matrix.rows → byte j ≡ 0)
      (λ j. (i ≤ j) × (j < h.matrix.rows) × (byte j ≡ 0 → ⊥) × ((k : ℕ) → i ≤ k → k < j → byte k ≡ 0))
      → IsPivot i (rows_of_held h) r
  unfolding pivot_from
  found None z =
      search_ends i (rows_of_held h) {i = i} {j = h.matrix.rows} (omega arith) (λ j l k. read j k ∙ z j l k) (sym (length_rows_of h.matrix.cols h.matrix.rows h.elements.now))
  found (Some j) m =
      search_finds i (rows_of_held h) {i = i} {j = j} m.0 (λ k l b. read k (omega (arith, m.1)) ∙ m.3 k l b) (rw length_rows_of m.1) (λ e. m.2 (sym (read j m.1) ∙ e))

pub find-requires-clause-callable : goal.find-requires-clause-callable
find-requires-clause-callable c =
    let h = c.args.self.now in
    serves_from_Range (λ x q k. search (rules, tests))
    (λ x low high y e.
    let r : y.now * h.matrix.cols + h.matrix.cols ≤ length h.elements.now = rw e (row_in h.matrix (length h.elements.now) h.fits x high) in
    let k : c.args.i < h.matrix.cols = column_in h.matrix (length h.elements.now) h.fits c.args.i c.requires in
    search (rules, arith))

pub returns : goal.returns
returns c =
    let h = c.args.self.now in
    found h c.args.i c.requires c.find.result
    (first_from_Range _ _ _ _ (λ j. byte h c.args.i c.requires j ≡ 0 → ⊥) (λ j. byte h c.args.i c.requires j ≡ 0) c.find.ensures.ran
    (λ x q k. grind (arith, tests, get_or_read))
    (λ x q k. (search rules, grind (arith, tests, get_or_read))))
