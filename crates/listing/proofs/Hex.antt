-- Hexadecimal digits, two for each byte: how long their text is, and what putting those of one byte more makes.
-- Assumes nothing.
use mathlib.Core.Path.{◌≡◌, refl, sym, ap, ◌∙◌}
use mathlib.Core.List.{List, [], ◌∷◌, ◌++◌, append_assoc}
use Prim.Native.Nat.{ℕ, ◌+◌, ◌*◌, ◌/◌, ◌%◌, ◌<◌}
use native.Mathlib.Numerals.{add-one}
use native.Mathlib.Omega.{arith}
use lib.ListN.{length, get_or, take, drop, set, length-append}
use lib.Seq.{take-suc, length-take-le}
use Rattle.listing.specs.Text.{digit, hex}
use Rattle.listing.specs.Lines.{data_line}
use Rattle.listing.proofs.Putting.{one_behind}

pub length_hex : (bytes : List ℕ) → length (hex bytes) ≡ length bytes * 2
unfolding hex
length_hex [] = refl
length_hex (b ∷ bytes) = omega (arith, length_hex bytes)

pub length_data_line : (bytes : List ℕ) → length (data_line bytes) ≡ length bytes * 2 + 1
unfolding data_line
length_data_line bytes = omega (arith, length_hex bytes, length-append (hex bytes) (10 ∷ []))

hex_append : (xs ys : List ℕ) → hex (xs ++ ys) ≡ hex xs ++ hex ys
unfolding hex
hex_append [] ys = refl
hex_append (x ∷ xs) ys = ap (λ (l : List ℕ). digit (x / 16) ∷ digit (x % 16) ∷ l) (hex_append xs ys)

-- the digits of one byte more
module _ (bytes out : List ℕ) (i : ℕ) (h : i < length bytes) (room : length out ≡ length bytes * 2) where
  hex_more : hex (take (i + 1) bytes) ≡ (hex (take i bytes) ++ (digit (get_or bytes i 0 / 16) ∷ [])) ++ (digit (get_or bytes i 0 % 16) ∷ [])
  unfolding hex
  hex_more =
      ap (λ (n : ℕ). hex (take n bytes)) (add-one i) ∙ ap hex (take-suc bytes i 0 h) ∙ hex_append (take i bytes) (get_or bytes i 0 ∷ [])
      ∙ sym (append_assoc (hex (take i bytes)) (digit (get_or bytes i 0 / 16) ∷ []) (digit (get_or bytes i 0 % 16) ∷ []))

  pub turn : {now : List ℕ} {high low : ℕ} → now ≡ hex (take i bytes) ++ drop (2 * i) out → high ≡ digit (get_or bytes i 0 / 16)
      → low ≡ digit (get_or bytes i 0 % 16) → set (set now (2 * i) high) (2 * i + 1) low ≡ hex (take (i + 1) bytes) ++ drop (2 * (i + 1)) out
  turn {now} {high} {low} e p q =
      let text : List ℕ = hex (take i bytes) in
      let long : length text ≡ 2 * i = omega (arith, length_hex (take i bytes), length-take-le i bytes (omega arith)) in
      let longer : length (text ++ (high ∷ [])) ≡ 2 * i + 1 = omega (arith, long, length-append text (high ∷ [])) in
      let next : 2 * i + 1 + 1 ≡ 2 * (i + 1) = omega arith in
      ap (λ (l : List ℕ). set (set l (2 * i) high) (2 * i + 1) low) e
      ∙ ap (λ (l : List ℕ). set l (2 * i + 1) low) (one_behind text out (2 * i) high (sym long) (omega (arith, room)))
      ∙ one_behind (text ++ (high ∷ [])) out (2 * i + 1) low (sym longer) (omega (arith, room))
      ∙ (λ j. ((text ++ (p j ∷ [])) ++ (q j ∷ [])) ++ drop (next j) out) ∙ ap (λ (l : List ℕ). l ++ drop (2 * (i + 1)) out) (sym hex_more)
