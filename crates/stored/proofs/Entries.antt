-- What `Saving` and `Loading` say case by case: each test that held or failed picks one result. And the other way: what a decoder that was saved
-- or loaded tells of the tests.
-- Assumes nothing.
use mathlib.Core.Path.{◌≡◌, refl, sym, ap, subst, ◌∙◌}
use mathlib.Core.Bool.{Bool, true, false}
use mathlib.Core.List.{List, [], ◌∷◌, ◌++◌}
use Prim.Native.Nat.{ℕ, ◌≤◌, ◌<◌}
use native.Mathlib.Omega.{arith}
use lib.Dec.{ltb}
use lib.ListN.{length, get_or, drop}
use borrow.Author.Tests.{lt-ltb, le-ltb}
use Rattle.std.specs.Prelude.{Option, Some, None, Result, Ok, Err, ok_or}
use Rattle.answers.specs.Number.{Answer}
use Rattle.answers.specs.declared.RLNCError.{RLNCError}
use Rattle.answers.specs.declared.RLNCError.TheVariants.{NoRoom, BadState, UnknownKind, CutRecord}
use Rattle.linear.specs.Choice.{pick}
use Rattle.stream.specs.declared.Geometry.{Geometry}
use Rattle.decoder.specs.declared.Decoder.{Decoder}
use Rattle.decoder.specs.Records.{k_of, l_of, bad_state}
use Rattle.decoder.proofs.Sound.{holds}
use Rattle.stored.specs.Forms.{matrix_size, form_size, stored_geometry, size_geometry, form_of, form_matrix, form_decoder}
use Rattle.stored.specs.Entries.{size_refusal, save_refusal, saved_form, Saving, bad_form, form_refusal, load_refusal, geometry_in, load_result, load_matrix, Loading}
use Rattle.stored.proofs.Forms.{sizes_are, length_form}

-- what `?` hands on of an absent value, as `ok_or` made it an error
pub handed_on : {T U E : Type 0} {o : Option U} {x e : E} {r : Result T E} → Err x ≡ ok_or o e → o ≡ None → (y : E) × (r ≡ Err y) × (y ≡ x) → r ≡ Err e
handed_on {T} {U} {E} {o} {x} {e} v n p = p.1 ∙ ap Err p.2 ∙ ap Err same
  where
    same : x ≡ e
    same = let h : ◌≡◌ {A = Result U E} (Err x) (Err e) = v ∙ ap (λ (o : Option U). ok_or o e) n in cc

-- ---- saving

module _ (d : Decoder) (elements out : List ℕ) where
  pub saves_bad : bad_state d (length elements) ≡ true → Saving d elements out (Err BadState) out
  unfolding save_refusal
  saves_bad b = record { result = rw b; left = rw b }

  -- what `?` hands on of a record that is not admitted
  pub saves_unfit : {a : Answer} {e : RLNCError} {r : Result ℕ RLNCError} → a ≡ pick (bad_state d (length elements)) (Err BadState) (Ok tt) → a ≡ Err e
      → (y : RLNCError) × (r ≡ Err y) × (y ≡ e) → Saving d elements out r out
  saves_unfit {a} {e} {r} p q h = go (bad_state d (length elements)) refl p
    where
      go : (t : Bool) → bad_state d (length elements) ≡ t → a ≡ pick t (Err BadState) (Ok tt) → Saving d elements out r out
      go true b p = subst (λ (r : Result ℕ RLNCError). Saving d elements out r out) (sym (h.1 ∙ ap Err (h.2 ∙ is))) (saves_bad b)
        where
          is : e ≡ BadState
          is = let w : ◌≡◌ {A = Answer} (Err e) (Err BadState) = sym q ∙ p in cc
      go false b p = let w : ◌≡◌ {A = Answer} (Ok tt) (Err e) = sym p ∙ q in absurd cc

  module _ (b : bad_state d (length elements) ≡ false) where
    pub saves_unlisted : size_geometry (k_of d) (l_of d) ≡ None → Saving d elements out (Err UnknownKind) out
    unfolding save_refusal size_refusal
    saves_unlisted s = record { result = rw (b, s); left = rw (b, s) }

    module _ (g : Geometry) (s : size_geometry (k_of d) (l_of d) ≡ Some g) where
      pub saves_no_room : length out < form_size g → Saving d elements out (Err NoRoom) out
      unfolding save_refusal size_refusal
      saves_no_room h =
          let t : ltb (length out) (form_size g) ≡ true = lt-ltb (length out) (form_size g) h in
          record { result = rw (b, s, t); left = rw (b, s, t) }

      size : length (form_of g d elements) ≡ form_size g
      size =
          let h = holds d (length elements) b in
          let (k_is, l_is) = sizes_are (k_of d) (l_of d) g s in
          length_form g d elements k_is l_is h.numbers.rows_pieces h.room

      pub saves : {last : List ℕ} → form_size g ≤ length out → last ≡ form_of g d elements ++ drop (form_size g) out
          → Saving d elements out (Ok (form_size g)) last
      unfolding save_refusal size_refusal saved_form
      saves h e =
          let t : ltb (length out) (form_size g) ≡ false = le-ltb (length out) (form_size g) h in
          record { result = rw (b, s, t, size); left = e ∙ rw (b, s, t, size) }

-- ---- loading

module _ (elements : List ℕ) where
  pub loads_empty : (form : List ℕ) → length form ≡ 0 → Loading form elements (Err CutRecord) elements
  unfolding load_refusal geometry_in load_result
  loads_empty [] z = record { result = refl; left = refl }
  loads_empty (kind ∷ rest) z = absurd (omega arith)

  module _ (form : List ℕ) (n : 0 < length form) where
    told : geometry_in form ≡ stored_geometry (get_or form 0 0)
    unfolding geometry_in
    told = go form n
      where
        go : (f : List ℕ) → 0 < length f → geometry_in f ≡ stored_geometry (get_or f 0 0)
        go [] n = absurd (omega arith)
        go (kind ∷ rest) n = refl

    refusal : (room : ℕ) → load_refusal form room ≡ form_refusal (stored_geometry (get_or form 0 0)) form room
    unfolding load_refusal
    refusal room = go form n
      where
        go : (f : List ℕ) → 0 < length f → load_refusal f room ≡ form_refusal (stored_geometry (get_or f 0 0)) f room
        go [] n = absurd (omega arith)
        go (kind ∷ rest) n = refl

    pub loads_unlisted : stored_geometry (get_or form 0 0) ≡ None → Loading form elements (Err UnknownKind) elements
    unfolding form_refusal load_result
    loads_unlisted s = record { result = rw (told, refusal, s); left = rw (told, refusal, s) }

    module _ (g : Geometry) (s : stored_geometry (get_or form 0 0) ≡ Some g) where
      pub loads_short : length form < form_size g → Loading form elements (Err CutRecord) elements
      unfolding form_refusal load_result
      loads_short h =
          let t : ltb (length form) (form_size g) ≡ true = lt-ltb (length form) (form_size g) h in
          record { result = rw (told, refusal, s, t); left = rw (told, refusal, s, t) }

      module _ (w : form_size g ≤ length form) where
        t : ltb (length form) (form_size g) ≡ false
        t = le-ltb (length form) (form_size g) w

        pub loads_no_room : length elements < matrix_size g → Loading form elements (Err NoRoom) elements
        unfolding form_refusal load_result
        loads_no_room h =
            let u : ltb (length elements) (matrix_size g) ≡ true = lt-ltb (length elements) (matrix_size g) h in
            record { result = rw (told, refusal, s, t, u); left = rw (told, refusal, s, t, u) }

        module _ (v : matrix_size g ≤ length elements) where
          u : ltb (length elements) (matrix_size g) ≡ false
          u = le-ltb (length elements) (matrix_size g) v

          pub loads_bad : bad_form g form ≡ true → Loading form elements (Err BadState) elements
          unfolding form_refusal load_result
          loads_bad b = record { result = rw (told, refusal, s, t, u, b); left = rw (told, refusal, s, t, u, b) }

          pub loads : {last : List ℕ} → bad_form g form ≡ false → last ≡ form_matrix g form ++ drop (matrix_size g) elements
              → Loading form elements (Ok (form_decoder g form)) last
          unfolding form_refusal load_result load_matrix
          loads b e = record { result = rw (told, refusal, s, t, u, b); left = e ∙ rw (told, refusal, s, t, u, b) }
