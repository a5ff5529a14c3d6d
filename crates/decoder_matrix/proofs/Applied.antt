-- Rules applied to the rows held, one after the other.
-- Assumes nothing.
use mathlib.Core.Path.{◌≡◌, refl, sym, ap, ◌∙◌, subst}
use mathlib.Core.List.{List}
use Prim.Native.Nat.{ℕ}
use lib.ListN.{length}
use Rattle.linear.specs.Buffer.{Ruled}
use Rattle.linear.proofs.Buffer.{length_rows_of}
use Rattle.decoder_matrix.specs.declared.DecoderMatrix.{DecoderMatrix}
use Rattle.decoder_matrix.specs.declared.rules.Held.{Held}
use Rattle.decoder_matrix.specs.Matrix.{rows_in}
use Rattle.decoder_matrix.specs.Steps.{rows_of_held, Applied}

abbrev Rule : Type 0
Rule = List (List ℕ) → List (List ℕ)

pub length_held : (h : Held) → length (rows_of_held h) ≡ h.matrix.rows
length_held h = length_rows_of h.matrix.cols h.matrix.rows h.elements.now

pub stays : {rule : Rule} (h : Held) → rule (rows_of_held h) ≡ rows_of_held h → Applied rule h h
stays h e = record { matrix = refl; lent = refl; ruled = record { rows = sym e; rest = refl } }

module _ {rule : Rule} {old new : Held} (a : Applied rule old new) where
  pub as_many : new.matrix.rows ≡ old.matrix.rows
  as_many = ap (λ (m : DecoderMatrix). m.rows) a.matrix

  pub rows_after : rows_of_held new ≡ rule (rows_of_held old)
  rows_after = ap (λ (m : DecoderMatrix). rows_in m new.elements.now) a.matrix ∙ a.ruled.rows

  pub as_well : {other : Rule} → rule (rows_of_held old) ≡ other (rows_of_held old) → Applied other old new
  as_well e = record { matrix = a.matrix; lent = a.lent; ruled = record { rows = a.ruled.rows ∙ e; rest = a.ruled.rest } }

  pub and_then : {next : Rule} {last : Held} → Applied next new last → Applied (λ rows. next (rule rows)) old last
  and_then {next} {last} b =
      let u : Ruled old.matrix.cols old.matrix.rows new.elements.now last.elements.now (next (rows_of_held new)) =
      subst (λ (m : DecoderMatrix). Ruled m.cols m.rows new.elements.now last.elements.now (next (rows_of_held new))) a.matrix b.ruled in
      record {
        matrix = b.matrix ∙ a.matrix;
        lent = b.lent ∙ a.lent;
        ruled = record { rows = u.rows ∙ ap next rows_after; rest = u.rest ∙ a.ruled.rest };
      }
