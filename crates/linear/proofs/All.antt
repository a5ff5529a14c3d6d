-- A property of each element goes through the functions on lists element by element. `Every`, by index and with a default, is what the proofs
-- on rows use: it asks for no range.
-- Assumes nothing.
use mathlib.Core.Path.{◌≡◌, refl}
use mathlib.Core.List.{List, [], ◌∷◌, ◌++◌, map}
use Prim.Native.Nat.{ℕ, zero, suc, ◌<◌}
use native.Mathlib.Nat.{not-suc-le-zero, le_of_suc-le-suc}
use native.Mathlib.Omega.{arith}
use lib.ListN.{length, get_or, replicate}
use Rattle.linear.specs.All.{All, none, more, Bytes}

module _ {A : Type 0} where
  abbrev pub Every : (A → Type 0) → A → List A → Type 0
  Every P d xs = (i : ℕ) → P (get_or xs i d)

  pub all_head : {P : A → Type 0} {x : A} {xs : List A} → All P (x ∷ xs) → P x
  all_head (more p h) = p

  pub all_tail : {P : A → Type 0} {x : A} {xs : List A} → All P (x ∷ xs) → All P xs
  all_tail (more p h) = h

  pub all_imp : {P Q : A → Type 0} {xs : List A} → ((x : A) → P x → Q x) → All P xs → All Q xs
  all_imp f none = none
  all_imp f (more {x = x} p h) = more (f x p) (all_imp f h)

  pub all_true : {P : A → Type 0} → ((x : A) → P x) → (xs : List A) → All P xs
  all_true f [] = none
  all_true f (x ∷ xs) = more (f x) (all_true f xs)

  pub all_both : {P Q : A → Type 0} {xs : List A} → All P xs → All Q xs → All (λ x. P x × Q x) xs
  all_both none k = none
  all_both (more p h) k = more (p, all_head k) (all_both h (all_tail k))

  -- for each number below n
  pub all_each : {P : ℕ → A → Type 0} (n : ℕ) (xs : List A) → ((j : ℕ) → j < n → All (P j) xs) → All (λ x. (j : ℕ) → j < n → P j x) xs
  all_each n [] h = none
  all_each n (x ∷ xs) h = more (λ j l. all_head (h j l)) (all_each n xs (λ j l. all_tail (h j l)))

  pub all_at : {P : A → Type 0} (d : A) (xs : List A) (i : ℕ) → All P xs → i < length xs → P (get_or xs i d)
  all_at d [] i h l = absurd (not-suc-le-zero l)
  all_at d (x ∷ xs) zero h l = all_head h
  all_at d (x ∷ xs) (suc i) h l = all_at d xs i (all_tail h) (le_of_suc-le-suc l)

  pub all_append : {P : A → Type 0} {xs ys : List A} → All P xs → All P ys → All P (xs ++ ys)
  all_append none k = k
  all_append (more p h) k = more p (all_append h k)

  pub all_append_left : {P : A → Type 0} (xs ys : List A) → All P (xs ++ ys) → All P xs
  all_append_left [] ys h = none
  all_append_left (x ∷ xs) ys h = more (all_head h) (all_append_left xs ys (all_tail h))

  pub all_append_right : {P : A → Type 0} (xs ys : List A) → All P (xs ++ ys) → All P ys
  all_append_right [] ys h = h
  all_append_right (x ∷ xs) ys h = all_append_right xs ys (all_tail h)

  pub all_of_map : {P : A → Type 0} (f : A → A) (xs : List A) → All P (map f xs) → All (λ x. P (f x)) xs
  all_of_map f [] h = none
  all_of_map f (x ∷ xs) h = more (all_head h) (all_of_map f xs (all_tail h))

  pub all_every : {P : A → Type 0} (d : A) (xs : List A) → P d → All P xs → Every P d xs
  all_every d [] z h i = z
  all_every d (x ∷ xs) z h zero = all_head h
  all_every d (x ∷ xs) z h (suc i) = all_every d xs z (all_tail h) i

  pub every_all : (P : A → Type 0) (d : A) (xs : List A) → Every P d xs → All P xs
  every_all P d [] h = none
  every_all P d (x ∷ xs) h = more (h 0) (every_all P d xs (λ i. h (suc i)))

pub bytes_at : (row : List ℕ) → Bytes row → (c : ℕ) → get_or row c 0 < 256
bytes_at row h = all_every {P = λ x. x < 256} 0 row (omega arith) h

pub zeros_bytes : (n : ℕ) → Bytes (replicate n 0)
zeros_bytes zero = none
zeros_bytes (suc n) = more {x = 0} (omega arith) (zeros_bytes n)

pub zeros_entry : (n c : ℕ) → get_or (replicate {A = ℕ} n 0) c 0 ≡ 0
zeros_entry zero c = refl
zeros_entry (suc n) zero = refl
zeros_entry (suc n) (suc c) = zeros_entry n c
