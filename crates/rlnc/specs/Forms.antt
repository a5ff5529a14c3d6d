-- Saving and loading a decoder that crosses as its numbers.
use Rattle.std.specs.Prelude.{◌≡◌, List, ◌++◌, ℕ, length, drop}
use Rattle.std.specs.Result.{result_unwrap_or}
use Rattle.answers.specs.Number.{number_of}
use Rattle.block.specs.Refusal.{if_ok}
use Rattle.decoder.specs.declared.Decoder.{Decoder}
use Rattle.decoder.specs.Records.{k_of, l_of}
use Rattle.stored.specs.Forms.{size_geometry}
use Rattle.stored.specs.Entries.{save_refusal, saved_form, load_refusal, geometry_in, load_result, load_matrix}

-- the form of a decoder of listed sizes
abbrev pub form_for : Decoder → List ℕ → List ℕ
form_for d elements = saved_form (size_geometry (k_of d) (l_of d)) d elements

-- a decoder saved: `n` is the length that stood there
pub record FormSaved (d : Decoder) (elements out : List ℕ) (n r n' : ℕ) (last : List ℕ) : Type 0 where
  pub number : r ≡ number_of (save_refusal d (length elements) (length out))
  pub length_stored : n' ≡ if_ok (save_refusal d (length elements) (length out)) (length (form_for d elements)) n
  pub left : last ≡ if_ok (save_refusal d (length elements) (length out)) (form_for d elements ++ drop (length (form_for d elements)) out) out

-- the decoder loaded, or that whose numbers stood there
pub record FormLoaded (form elements : List ℕ) (before : Decoder) (r : ℕ) (after : Decoder) (last : List ℕ) : Type 0 where
  pub number : r ≡ number_of (load_result (geometry_in form) form (load_refusal form (length elements)))
  pub stored : after ≡ result_unwrap_or (load_result (geometry_in form) form (load_refusal form (length elements))) before
  pub left : last ≡ if_ok (load_refusal form (length elements)) (load_matrix (geometry_in form) form elements) elements
