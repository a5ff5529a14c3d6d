-- Where two linear functions of a row agree, sums and multiples of rows stay: the rows that a vector kills are so, and the truthful ones.
-- Assumes nothing.
use mathlib.Core.Path.{◌≡◌, refl, sym, ap, ap₂, ◌∙◌}
use mathlib.Core.Logic.{inl, inr}
use mathlib.Core.List.{List, []}
use Prim.Native.Nat.{ℕ, ◌+◌, ◌<◌}
use lib.ListN.{length, get_or, take}
use Rattle.galois.specs.Gf.{◌⊕◌}
use Rattle.galois.specs.FieldLaws.{FieldLaws}
use Rattle.galois.proofs.Field.{mul_zero}
use Rattle.linear.specs.All.{All}
use Rattle.linear.specs.Rows.{add_multiple, scale_row}
use Rattle.linear.specs.Pieces.{dot, column, Truthful}
use Rattle.linear.specs.Blocks.{Agrees, Kills}
use Rattle.linear.specs.Engine.{Subspace, Fits}
use Rattle.linear.proofs.All.{all_imp, all_both, all_each}
use Rattle.linear.proofs.Sums.{add_nil, scale_nil, length_add, length_scale, add_entry, scale_entry}
use Rattle.linear.proofs.Dot.{dot_add, dot_scale, dot_take}

-- sums and multiples of rows of `width` entries go through f
pub record Linear (𝓕 : FieldLaws) (width : ℕ) (f : List ℕ → ℕ) : Type 0 where
  pub nil : f [] ≡ 0
  pub add : (q : ℕ) (src dst : List ℕ) → length src ≡ width → length dst ≡ width → f (add_multiple 𝓕 q src dst) ≡ f dst ⊕ 𝓕.mul q (f src)
  pub scale : (q : ℕ) (r : List ℕ) → f (scale_row 𝓕 q r) ≡ 𝓕.mul q (f r)

-- two functions agree at the row
abbrev pub Agree : ℕ → (List ℕ → ℕ) → (List ℕ → ℕ) → List ℕ → Type 0
Agree width f g r = Fits width r × (f r ≡ g r)

module _ (𝓕 : FieldLaws) (width : ℕ) where
  pub fits_subspace : Subspace 𝓕 (Fits width)
  fits_subspace = record { nil = inr refl; add = λ q src dst hs hd. add q src dst hd; scale = scale }
    where
      add : (q : ℕ) (src dst : List ℕ) → Fits width dst → Fits width (add_multiple 𝓕 q src dst)
      add q src dst (inl d) = inl (length_add 𝓕 q src dst ∙ d)
      add q src dst (inr d) = inr (rw (d, add_nil 𝓕))

      scale : (q : ℕ) (r : List ℕ) → Fits width r → Fits width (scale_row 𝓕 q r)
      scale q r (inl e) = inl (length_scale 𝓕 q r ∙ e)
      scale q r (inr e) = inr (rw (e, scale_nil 𝓕))

  pub agree_subspace : {f g : List ℕ → ℕ} → Linear 𝓕 width f → Linear 𝓕 width g → Subspace 𝓕 (Agree width f g)
  unfolding add_multiple
  agree_subspace {f} {g} lf lg = record {
    nil = (inr refl, lf.nil ∙ sym lg.nil);
    add = λ q src dst hs hd. (fits_subspace.add q src dst hs.0 hd.0, add q src dst hs.0 hd.0 hs.1 hd.1);
    scale = λ q r h. (fits_subspace.scale q r h.0, lf.scale q r ∙ ap (𝓕.mul q) h.1 ∙ sym (lg.scale q r));
  }
    where
      add : (q : ℕ) (src dst : List ℕ) → Fits width src → Fits width dst → f src ≡ g src → f dst ≡ g dst
          → f (add_multiple 𝓕 q src dst) ≡ g (add_multiple 𝓕 q src dst)
      add q src dst (inl s) (inl d) es ed =
          lf.add q src dst s d ∙ ap₂ (λ (x y : ℕ). x ⊕ 𝓕.mul q y) ed es ∙ sym (lg.add q src dst s d)
      add q src dst (inl s) (inr d) es ed = rw (d, add_nil 𝓕) (lf.nil ∙ sym lg.nil)
      add q src dst (inr s) hd es ed = rw s ed

  zero_linear : Linear 𝓕 width (λ r. 0)
  zero_linear = record { nil = refl; add = λ q src dst s d. sym (mul_zero 𝓕 q); scale = λ q r. sym (mul_zero 𝓕 q) }

  pub dot_linear : (v : List ℕ) → Linear 𝓕 width (λ r. dot 𝓕 r v)
  unfolding dot
  dot_linear v = record {
    nil = refl;
    add = λ q src dst s d. dot_add 𝓕 q src dst v (s ∙ sym d);
    scale = λ q r. dot_scale 𝓕 q r v;
  }

  entry_linear : (c : ℕ) → Linear 𝓕 width (λ r. get_or r c 0)
  entry_linear c = record {
    nil = refl;
    add = λ q src dst s d. add_entry 𝓕 q src dst c (s ∙ sym d);
    scale = λ q r. scale_entry 𝓕 q r c;
  }

  -- ---- the rows that v kills

  pub kills_subspace : (v : List ℕ) → Subspace 𝓕 (λ r. Fits width r × Kills 𝓕 v r)
  unfolding Kills
  kills_subspace v = agree_subspace (dot_linear v) zero_linear

-- ---- the rows that are truthful for a block

module _ (𝓕 : FieldLaws) (k L : ℕ) (block : List (List ℕ)) where
  -- truthful at byte j
  abbrev pub Told : ℕ → List ℕ → Type 0
  Told j = Agree (k + L) (λ r. get_or r (k + j) 0) (λ r. dot 𝓕 r (take k (column j block)))

  pub told_subspace : (j : ℕ) → Subspace 𝓕 (Told j)
  told_subspace j = agree_subspace 𝓕 (k + L) (entry_linear 𝓕 (k + L) (k + j)) (dot_linear 𝓕 (k + L) (take k (column j block)))

  pub told : {rows : List (List ℕ)} → All (Fits (k + L)) rows → Agrees 𝓕 k L rows block → (j : ℕ) → j < L → All (Told j) rows
  unfolding Agrees Truthful
  told f a j l = all_imp (λ r h. (h.0, h.1 j l ∙ dot_take 𝓕 k r (column j block))) (all_both f a)

  pub told_agrees : (rows : List (List ℕ)) → ((j : ℕ) → j < L → All (Told j) rows) → Agrees 𝓕 k L rows block
  unfolding Agrees Truthful
  told_agrees rows h = all_each L rows (λ j l. all_imp (λ r g. g.1 ∙ sym (dot_take 𝓕 k r (column j block))) (h j l))
