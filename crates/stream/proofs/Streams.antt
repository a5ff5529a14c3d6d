-- A stream goes on as the record at its front says; each piece takes bytes, so more fuel than bytes changes nothing. The record of a piece reads
-- as that piece, whatever follows.
-- Assumes nothing.
use mathlib.Core.Path.{◌≡◌, refl, sym, ap, ◌∙◌}
use mathlib.Core.Bool.{true, false}
use mathlib.Core.List.{List, [], ◌∷◌, ◌++◌, append_assoc, append-nil}
use Rattle.std.specs.Prelude.{Option, Some, None, Result, Ok, Err}
use Prim.Native.Nat.{ℕ, zero, suc, ◌+◌, ◌≤◌, ◌<◌}
use native.Mathlib.Nat.{not-suc-le-zero, add_assoc, add_comm}
use native.Mathlib.Numerals.{add-one}
use native.Mathlib.Omega.{arith}
use lib.Dec.{eqb}
use lib.ListN.{length, take, drop, length-append, length-drop}
use lib.Seq.{take_at, drop_at, drop-drop}
use borrow.Author.Tests.{eq-eqb, le-ltb}
use Rattle.answers.specs.Number.{Answer, number_of}
use Rattle.answers.proofs.Numbers.{numbers_tell}
use Rattle.answers.specs.declared.RLNCError.{RLNCError}
use Rattle.answers.specs.declared.RLNCError.TheVariants.{CutRecord}
use Rattle.linear.specs.All.{All, more}
use Rattle.block.specs.Refusal.{if_ok}
use Rattle.stream.specs.declared.Geometry.{Geometry}
use Rattle.stream.specs.declared.Geometry.TheVariants.{Of3By2, Of16By240, Of32By480}
use Rattle.stream.specs.declared.Record.{Record}
use Rattle.stream.specs.declared.Record.TheVariants.{Piece, End}
use Rattle.stream.specs.Geometries.{kind_of, body_of, geometry_of, same_geometry}
use Rattle.stream.specs.Records.{fits_in, piece_record, kind_record, record_at, Written}
use Rattle.stream.specs.Streams.{piece, end, stop, stream_from, stream_of, stream_at, records_of, of_pieces}

-- ---- one record

module _ (n : ℕ) (so_far : Option Geometry) (at : ℕ) (bytes : List ℕ) where
  pub from_piece : (g : Geometry) → record_at so_far bytes ≡ Ok (Piece g)
      → stream_from (suc n) so_far at bytes
      ≡ piece g (take (body_of g) (drop 1 bytes)) (stream_from n (Some g) (at + 1 + body_of g) (drop (1 + body_of g) bytes))
  unfolding stream_from
  from_piece g e = rw (e, stream_from)

  pub from_end : record_at so_far bytes ≡ Ok End → stream_from (suc n) so_far at bytes ≡ end
  unfolding stream_from
  from_end e = rw (e, stream_from)

  pub from_refused : (a : RLNCError) → record_at so_far bytes ≡ Err a → stream_from (suc n) so_far at bytes ≡ stop a at
  unfolding stream_from
  from_refused a e = rw (e, stream_from)

same_step : (n m : ℕ) (so_far : Option Geometry) (at : ℕ) (bytes : List ℕ)
    → ((g : Geometry) (at' : ℕ) → stream_from n (Some g) at' (drop (1 + body_of g) bytes) ≡ stream_from m (Some g) at' (drop (1 + body_of g) bytes))
    → (r : Result Record RLNCError) → record_at so_far bytes ≡ r → stream_from (suc n) so_far at bytes ≡ stream_from (suc m) so_far at bytes
same_step n m so_far at bytes ih (Ok (Piece g)) e =
    from_piece n so_far at bytes g e ∙ ap (piece g (take (body_of g) (drop 1 bytes))) (ih g (at + 1 + body_of g)) ∙ sym (from_piece m so_far at bytes g e)
same_step n m so_far at bytes ih (Ok End) e = from_end n so_far at bytes e ∙ sym (from_end m so_far at bytes e)
same_step n m so_far at bytes ih (Err a) e = from_refused n so_far at bytes a e ∙ sym (from_refused m so_far at bytes a e)

-- more fuel than bytes changes nothing
pub same_stream : (n m : ℕ) (so_far : Option Geometry) (at : ℕ) (bytes : List ℕ) → length bytes < n → length bytes < m
    → stream_from n so_far at bytes ≡ stream_from m so_far at bytes
unfolding record_at
same_stream zero m so_far at bytes h k = absurd (not-suc-le-zero h)
same_stream (suc n) zero so_far at bytes h k = absurd (not-suc-le-zero k)
same_stream (suc n) (suc m) so_far at [] h k = from_refused n so_far at [] CutRecord refl ∙ sym (from_refused m so_far at [] CutRecord refl)
same_stream (suc n) (suc m) so_far at (kind ∷ rest) h k =
    same_step n m so_far at (kind ∷ rest)
    (λ g at'. same_stream n m (Some g) at' (drop (1 + body_of g) (kind ∷ rest)) (fewer g n h) (fewer g m k)) (record_at so_far (kind ∷ rest)) refl
  where
    fewer : (g : Geometry) (n : ℕ) → suc (length rest) < suc n → length (drop (1 + body_of g) (kind ∷ rest)) < n
    fewer g n l = simp length-drop (omega arith)

-- ---- from offset to offset: what `read` says of the bytes from there on is how the stream goes on

not_empty : (so_far : Option Geometry) (bytes : List ℕ) (g : Geometry) → record_at so_far bytes ≡ Ok (Piece g) → 0 < length bytes
unfolding record_at
not_empty so_far [] g e = let z : ◌≡◌ {A = ℕ} 0 1 = cc in absurd (omega arith)
not_empty so_far (kind ∷ rest) g e = omega arith

module _ (so_far : Option Geometry) (at : ℕ) (bytes : List ℕ) where
  pub goes_on : (g : Geometry) → record_at so_far (drop at bytes) ≡ Ok (Piece g)
      → stream_at so_far at bytes ≡ piece g (take (body_of g) (drop (at + 1) bytes)) (stream_at (Some g) (at + 1 + body_of g) bytes)
  unfolding stream_at
  goes_on g e =
      let next : ℕ = at + 1 + body_of g in
      let to_next : drop (1 + body_of g) (drop at bytes) ≡ drop next bytes =
      drop-drop (1 + body_of g) at bytes ∙ ap (λ (i : ℕ). drop i bytes) (sym (add_assoc at 1 (body_of g))) in
      let some_left : 0 < length (drop at bytes) = not_empty so_far (drop at bytes) g e in
      let less : length (drop next bytes) < length (drop at bytes) = simp length-drop (omega (arith, length-drop at bytes)) in
      from_piece (length (drop at bytes)) so_far at (drop at bytes) g e
      ∙ (λ i. piece g (take (body_of g) (drop-drop 1 at bytes i)) (stream_from (length (drop at bytes)) (Some g) next (to_next i)))
      ∙ ap (piece g (take (body_of g) (drop (at + 1) bytes)))
      (same_stream (length (drop at bytes)) (suc (length (drop next bytes))) (Some g) next (drop next bytes) less (omega arith))

  pub ends : record_at so_far (drop at bytes) ≡ Ok End → stream_at so_far at bytes ≡ end
  unfolding stream_at
  ends e = from_end (length (drop at bytes)) so_far at (drop at bytes) e

  pub stops : (a : RLNCError) → record_at so_far (drop at bytes) ≡ Err a → stream_at so_far at bytes ≡ stop a at
  unfolding stream_at
  stops a e = from_refused (length (drop at bytes)) so_far at (drop at bytes) a e

pub starts : (bytes : List ℕ) → stream_of bytes ≡ stream_at None 0 bytes
unfolding stream_of stream_at
starts bytes = refl

-- ---- what is written reads back

-- an output that `write` answers Ok for holds the piece's record
pub written_record : {g : Geometry} {piece out last : List ℕ} {r : Answer} → Written g piece out r last → number_of r ≡ 0 → last ≡ records_of g (piece ∷ [])
unfolding records_of
written_record {g} {piece} {out} {r = r} w e =
    w.left ∙ ap (λ (a : Answer). if_ok a (kind_of g ∷ piece) out) (sym w.result ∙ (numbers_tell r (Ok tt)).1 e) ∙ ap (λ (l : List ℕ). kind_of g ∷ l) (sym (append-nil piece))

listed : (g : Geometry) → (eqb (kind_of g) 0x01 ≡ false) × (geometry_of (kind_of g) ≡ Some g)
unfolding geometry_of
listed Of3By2 = (refl, refl)
listed Of16By240 = (refl, refl)
listed Of32By480 = (refl, refl)

pub reads_piece : (so_far : Option Geometry) (g : Geometry) (rest : List ℕ) → fits_in so_far g ≡ true → body_of g ≤ length rest
    → record_at so_far (kind_of g ∷ rest) ≡ Ok (Piece g)
unfolding record_at kind_record piece_record
reads_piece so_far g rest f h = rw ((listed g).0, (listed g).1, f, le-ltb (length rest) (body_of g) h)

same_fits : (g : Geometry) → fits_in (Some g) g ≡ true
unfolding fits_in same_geometry
same_fits g = eq-eqb (kind_of g) (kind_of g) refl

module _ (g : Geometry) (behind : List ℕ) where
  reads_back : (n : ℕ) (so_far : Option Geometry) (at : ℕ) (ps : List (List ℕ)) → fits_in so_far g ≡ true → All (λ p. length p ≡ body_of g) ps
      → length (records_of g ps ++ 0x01 ∷ behind) < n → stream_from n so_far at (records_of g ps ++ 0x01 ∷ behind) ≡ of_pieces g ps
  unfolding records_of of_pieces record_at kind_record
  reads_back zero so_far at ps f sizes h = absurd (not-suc-le-zero h)
  reads_back (suc n) so_far at [] f sizes h = from_end n so_far at (0x01 ∷ behind) refl
  reads_back (suc n) so_far at (p ∷ ps) f (more size sizes) h =
      let rest : List ℕ = records_of g ps ++ 0x01 ∷ behind in
      let whole : records_of g (p ∷ ps) ++ 0x01 ∷ behind ≡ kind_of g ∷ (p ++ rest) =
      ap (λ (l : List ℕ). kind_of g ∷ l) (append_assoc p (records_of g ps) (0x01 ∷ behind)) in
      let long : length (records_of g (p ∷ ps) ++ 0x01 ∷ behind) ≡ suc (length p + length rest) = ap length whole ∙ ap suc (length-append p rest) in
      let fits : body_of g ≤ length (p ++ rest) = simp length-append (omega arith) in
      ap (stream_from (suc n) so_far at) whole
      ∙ from_piece n so_far at (kind_of g ∷ (p ++ rest)) g (reads_piece so_far g (p ++ rest) f fits)
      ∙ (λ i. piece g (take_at p rest (body_of g) size i) (stream_from n (Some g) (at + 1 + body_of g) (behind_it rest i)))
      ∙ ap (piece g p) (reads_back n (Some g) (at + 1 + body_of g) ps (same_fits g) sizes (omega arith))
    where
      behind_it : (rest : List ℕ) → drop (1 + body_of g) (kind_of g ∷ (p ++ rest)) ≡ rest
      behind_it rest = ap (λ (i : ℕ). drop i (kind_of g ∷ (p ++ rest))) (add_comm 1 (body_of g) ∙ add-one (body_of g)) ∙ drop_at p rest (body_of g) size

  -- the pieces, then the end; nothing behind the end record is read
  pub round_trip : (ps : List (List ℕ)) → All (λ p. length p ≡ body_of g) ps → stream_of (records_of g ps ++ 0x01 ∷ behind) ≡ of_pieces g ps
  unfolding stream_of fits_in
  round_trip ps sizes = reads_back (suc (length (records_of g ps ++ 0x01 ∷ behind))) None 0 ps refl sizes (omega arith)
