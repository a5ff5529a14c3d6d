-- What the calls of a fresh decoder keep: its sizes, good numbers, and as rows what the row rules make of the pieces taken.
-- Assumes nothing.
use mathlib.Core.Path.{◌≡◌, refl, sym, ap, ◌∙◌, subst}
use mathlib.Core.Logic.{inl, inr}
use mathlib.Core.List.{List, [], ◌∷◌}
use Prim.Native.Nat.{ℕ, suc, ◌-◌, ◌*◌, ◌≤◌}
use native.Mathlib.Nat.{mul-le-mul_right, mul_comm, mul-sub}
use native.Mathlib.Numerals.{add-one}
use native.Mathlib.Omega.{arith}
use lib.ListN.{length, length-append, length-drop, length-replicate}
use Rattle.std.specs.Prelude.{Ok}
use Rattle.galois.specs.FieldLaws.{FieldLaws}
use Rattle.linear.specs.All.{All, Bytes}
use Rattle.linear.specs.Rows.{take_piece}
use Rattle.linear.specs.Engine.{Taken, fresh, took}
use Rattle.linear.specs.Buffer.{rows_of, holding}
use Rattle.linear.proofs.Buffer.{sizes_of}
use Rattle.linear.proofs.Flat.{rows_flat, length_flat}
use Rattle.linear.proofs.Sizes.{take_piece_sizes}
use Rattle.decoder.specs.declared.Decoder.{Decoder}
use Rattle.decoder.specs.Records.{k_of, l_of, f_of, rows_in, taken_by, held_rows}
use Rattle.decoder.specs.Entries.{NewDecoder, take_refusal, rows_after, after}
use Rattle.demands.specs.History.{History, made, useful, not_useful, resumed, refused}
use Rattle.decoder.proofs.Sound.{Sound, told}
use Rattle.decoder.proofs.Accepted.{Accepted, accepted}
use Rattle.decoder.proofs.Counters.{held_count, new_sound, after_sound}
use Rattle.stored.proofs.Alike.{loaded_alike}
use Rattle.demands.proofs.Outcomes.{made_of, Took, took as was_taken, unchanged}

pub record Kept (𝓕 : FieldLaws) (k L : ℕ) (d : Decoder) (elements : List ℕ) (pieces : List (List ℕ)) : Type 0 where
  pub same_k : k_of d ≡ k
  pub same_l : l_of d ≡ L
  pub numbers : Sound d
  pub room : k_of d * f_of d ≤ length elements
  pub taken : taken_by d ≡ length pieces
  pub held : Taken (take_piece 𝓕 k) k L pieces (held_rows d elements)

-- ---- a new decoder

kept_new : (𝓕 : FieldLaws) (k L : ℕ) (buffer elements : List ℕ) (d : Decoder) → NewDecoder L k buffer (Ok d) elements → Kept 𝓕 k L d elements []
unfolding held_rows rows_of
kept_new 𝓕 k L buffer elements d n =
    let (is, left) = made_of L k buffer elements d n in
    let good : Sound d = told d (new_sound n) in
    subst (λ (x : Decoder). Sound x → Kept 𝓕 k L x elements []) (sym is)
    (λ g. record {
      same_k = refl;
      same_l = refl;
      numbers = g;
      room = rw left (simp (length-append, length-replicate, length-drop) (omega arith));
      taken = refl;
      held = fresh;
    }) good

-- ---- a piece taken

module _ (𝓕 : FieldLaws) (d : Decoder) (elements full : List ℕ) (ok : take_refusal d (length elements) (length full) ≡ Ok tt) where
  abbrev o : Accepted d (length elements) (length full)
  o = accepted d (length elements) (length full) ok

  abbrev rows' : List (List ℕ)
  rows' = rows_after 𝓕 d elements full

  widths : All (λ r. length r ≡ f_of d) rows'
  unfolding rows_after held_rows
  widths =
      take_piece_sizes 𝓕 (k_of d) (f_of d) (held_rows d elements) full
      (sizes_of (f_of d) (rows_in d) elements (omega (arith, o.held.room, mul-le-mul_right (f_of d) o.held.numbers.rows_pieces))) o.whole

  numbers_after : Sound (after 𝓕 d elements full)
  numbers_after = told (after 𝓕 d elements full) (after_sound 𝓕 d elements full ok)

  few : length rows' ≤ k_of d
  unfolding after
  few = numbers_after.rows_pieces

  length_holding : length (holding (k_of d) (f_of d) rows' elements) ≡ length elements
  length_holding =
      simp (length-append, length-replicate, length-drop, length_flat (f_of d) rows' widths)
      (omega (arith, o.held.room, mul_comm (k_of d - length rows') (f_of d), mul-sub (f_of d) (k_of d) (length rows'), mul_comm (f_of d) (k_of d), mul_comm (f_of d) (length rows'), mul-le-mul_right (f_of d) few))

  held_after : rows_of (f_of d) (length rows') (holding (k_of d) (f_of d) rows' elements) ≡ rows'
  held_after = rows_flat (f_of d) rows' _ widths

  module _ (pieces : List (List ℕ)) (b : Bytes full) (t : Taken (take_piece 𝓕 (k_of d)) (k_of d) (l_of d) pieces (held_rows d elements)) where
    taken_after : Taken (take_piece 𝓕 (k_of d)) (k_of d) (l_of d) (full ∷ pieces) rows'
    unfolding rows_after
    taken_after = took {rows = held_rows d elements} full (record { size = o.whole; bytes = b }) (λ e. omega (arith, e, held_count d elements, o.missing)) t

    kept_after : taken_by d ≡ length pieces
        → Kept 𝓕 (k_of d) (l_of d) (after 𝓕 d elements full) (holding (k_of d) (f_of d) rows' elements) (full ∷ pieces)
    unfolding after held_rows
    kept_after e = record {
      same_k = refl;
      same_l = refl;
      numbers = numbers_after;
      room = rw length_holding o.held.room;
      taken = add-one (taken_by d) ∙ ap suc e;
      held = rw held_after taken_after;
    }

kept_took : (𝓕 : FieldLaws) (k L : ℕ) (d d' : Decoder) (elements elements' full : List ℕ) (pieces : List (List ℕ)) → Kept 𝓕 k L d elements pieces
    → Bytes full → Took 𝓕 d elements full d' elements' → Kept 𝓕 k L d' elements' (full ∷ pieces)
kept_took 𝓕 k L d d' elements elements' full pieces h b t =
    let held : Taken (take_piece 𝓕 (k_of d)) (k_of d) (l_of d) pieces (held_rows d elements) =
    subst (λ (n : ℕ). Taken (take_piece 𝓕 n) n (l_of d) pieces (held_rows d elements)) (sym h.same_k)
    (subst (λ (n : ℕ). Taken (take_piece 𝓕 k) k n pieces (held_rows d elements)) (sym h.same_l) h.held) in
    rw (t.record_is, t.buffer_is, ← h.same_k, ← h.same_l) (kept_after 𝓕 d elements full t.let_in pieces b held h.taken)

-- ---- any calls

pub kept : {𝓕 : FieldLaws} {k L : ℕ} {d : Decoder} {elements : List ℕ} {pieces : List (List ℕ)} → History 𝓕 k L d elements pieces → Kept 𝓕 k L d elements pieces
kept {𝓕} {k} {L} (made {buffer} {elements} {d} n) = kept_new 𝓕 k L buffer elements d n
kept {𝓕} {k} {L} (useful {d} {d'} {elements} {elements'} {full} {pieces} h b c) =
    kept_took 𝓕 k L d d' elements elements' full pieces (kept h) b (was_taken 𝓕 d elements full _ elements' c d' (inl refl))
kept {𝓕} {k} {L} (not_useful {d} {d'} {elements} {elements'} {full} {pieces} h b c) =
    kept_took 𝓕 k L d d' elements elements' full pieces (kept h) b (was_taken 𝓕 d elements full _ elements' c d' (inr refl))
kept {𝓕} {k} {L} (resumed {d} {d'} {elements} {out} {out'} {pieces} {n} h s behind matrix {matrix'} room l) =
    let (e, a) = loaded_alike s behind matrix matrix' (Ok d') room l in
    let same : d ≡ d' = cc in
    let it : Kept 𝓕 k L d elements pieces = kept h in
    subst (λ (x : Decoder). Kept 𝓕 k L x matrix' pieces) same
    (record {
      same_k = it.same_k;
      same_l = it.same_l;
      numbers = it.numbers;
      room = a.there;
      taken = it.taken;
      held = subst (Taken (take_piece 𝓕 k) k L pieces) a.rows it.held;
    })
kept {𝓕} {k} {L} (refused {d} {elements} {elements'} {full} {pieces} {e} h c) =
    rw (unchanged 𝓕 d elements full _ elements' c e refl) (kept h)
