-- What a decoder that was saved or loaded tells: each refusal is the only outcome where its test holds, so every test failed.
-- Assumes nothing.
use mathlib.Core.Path.{◌≡◌, refl}
use mathlib.Core.Bool.{Bool, true, false}
use mathlib.Core.List.{List, ◌++◌}
use Prim.Native.Nat.{ℕ, ◌≤◌, ◌<◌}
use native.Mathlib.Nat.{pos_of_ne-zero}
use native.Mathlib.Omega.{arith}
use lib.Dec.{ltb}
use lib.ListN.{length, get_or, drop}
use borrow.Author.Tests.{ltb-true, ltb-false}
use Rattle.std.specs.Prelude.{Option, Some, None, Ok, Err}
use Rattle.answers.specs.declared.RLNCError.{RLNCError}
use Rattle.stream.specs.declared.Geometry.{Geometry}
use Rattle.decoder.specs.declared.Decoder.{Decoder}
use Rattle.decoder.specs.Records.{k_of, l_of, bad_state}
use Rattle.stored.specs.Forms.{matrix_size, form_size, stored_geometry, size_geometry, form_of, form_matrix, form_decoder}
use Rattle.stored.specs.Entries.{Saving, bad_form, Loading}
use Rattle.stored.proofs.Entries.{saves_bad, saves_unlisted, saves_no_room, saves, loads_empty, loads_unlisted, loads_short, loads_no_room, loads_bad, loads}
use Rattle.stored.proofs.OneResult.{saved_once, loaded_once}

pub record WasSaved (d : Decoder) (elements out : List ℕ) (n : ℕ) (last : List ℕ) : Type 0 where
  pub geometry : Geometry
  pub fine : bad_state d (length elements) ≡ false
  pub sizes : size_geometry (k_of d) (l_of d) ≡ Some geometry
  pub room : form_size geometry ≤ length out
  pub count : n ≡ form_size geometry
  pub left : last ≡ form_of geometry d elements ++ drop (form_size geometry) out

module _ (d : Decoder) (elements out : List ℕ) (n : ℕ) (last : List ℕ) (s : Saving d elements out (Ok n) last) where
  not_refused : (a : RLNCError) (left : List ℕ) → Saving d elements out (Err a) left → ⊥
  not_refused a left r =
      let e : Ok n ≡ Err a = (saved_once s r).0 in
      let z : ◌≡◌ {A = ℕ} 0 1 = cc in
      omega arith

  pub was_saved : WasSaved d elements out n last
  was_saved = go (bad_state d (length elements)) refl (size_geometry (k_of d) (l_of d)) refl
    where
      fits : (g : Geometry) → bad_state d (length elements) ≡ false → size_geometry (k_of d) (l_of d) ≡ Some g
          → (t : Bool) → ltb (length out) (form_size g) ≡ t → WasSaved d elements out n last
      fits g b z true t = absurd (not_refused _ _ (saves_no_room d elements out b g z (ltb-true _ _ t)))
      fits g b z false t =
          let h : form_size g ≤ length out = ltb-false _ _ t in
          let (e, l) = saved_once s (saves d elements out b g z h refl) in
          record { geometry = g; fine = b; sizes = z; room = h; count = (cc); left = l }

      go : (b : Bool) → bad_state d (length elements) ≡ b → (z : Option Geometry) → size_geometry (k_of d) (l_of d) ≡ z → WasSaved d elements out n last
      go true b z e = absurd (not_refused _ _ (saves_bad d elements out b))
      go false b None e = absurd (not_refused _ _ (saves_unlisted d elements out b e))
      go false b (Some g) e = fits g b e (ltb (length out) (form_size g)) refl

pub record WasLoaded (form elements : List ℕ) (d : Decoder) (last : List ℕ) : Type 0 where
  pub geometry : Geometry
  pub kind : stored_geometry (get_or form 0 0) ≡ Some geometry
  pub whole : form_size geometry ≤ length form
  pub room : matrix_size geometry ≤ length elements
  pub fine : bad_form geometry form ≡ false
  pub is : d ≡ form_decoder geometry form
  pub left : last ≡ form_matrix geometry form ++ drop (matrix_size geometry) elements

module _ (form elements : List ℕ) (d : Decoder) (last : List ℕ) (l : Loading form elements (Ok d) last) where
  no_refusal : (a : RLNCError) (left : List ℕ) → Loading form elements (Err a) left → ⊥
  no_refusal a left r =
      let e : Ok d ≡ Err a = (loaded_once l r).0 in
      let z : ◌≡◌ {A = ℕ} 0 1 = cc in
      omega arith

  pub was_loaded : WasLoaded form elements d last
  was_loaded = go (stored_geometry (get_or form 0 0)) refl
    where
      some : 0 < length form
      some = pos_of_ne-zero (λ z. no_refusal _ _ (loads_empty elements form z))

      counts : (g : Geometry) → stored_geometry (get_or form 0 0) ≡ Some g → form_size g ≤ length form → matrix_size g ≤ length elements
          → (b : Bool) → bad_form g form ≡ b → WasLoaded form elements d last
      counts g k w h true b = absurd (no_refusal _ _ (loads_bad elements form some g k w h b))
      counts g k w h false b =
          let (e, m) = loaded_once l (loads elements form some g k w h b refl) in
          record { geometry = g; kind = k; whole = w; room = h; fine = b; is = (cc); left = m }

      fits : (g : Geometry) → stored_geometry (get_or form 0 0) ≡ Some g → form_size g ≤ length form
          → (t : Bool) → ltb (length elements) (matrix_size g) ≡ t → WasLoaded form elements d last
      fits g k w true t = absurd (no_refusal _ _ (loads_no_room elements form some g k w (ltb-true _ _ t)))
      fits g k w false t = counts g k w (ltb-false _ _ t) (bad_form g form) refl

      long : (g : Geometry) → stored_geometry (get_or form 0 0) ≡ Some g → (t : Bool) → ltb (length form) (form_size g) ≡ t → WasLoaded form elements d last
      long g k true t = absurd (no_refusal _ _ (loads_short elements form some g k (ltb-true _ _ t)))
      long g k false t = fits g k (ltb-false _ _ t) (ltb (length elements) (matrix_size g)) refl

      go : (k : Option Geometry) → stored_geometry (get_or form 0 0) ≡ k → WasLoaded form elements d last
      go None e = absurd (no_refusal _ _ (loads_unlisted elements form some e))
      go (Some g) e = long g e (ltb (length form) (form_size g)) refl
