-- Powers, whatever the polynomial: sums and products of exponents, and exponents that count modulo a cycle.
-- Assumes nothing.
use mathlib.Core.Path.{◌≡◌, refl, sym, ap, ◌∙◌, subst}
use Prim.Native.Nat.{ℕ, zero, suc, ◌+◌, ◌*◌, ◌/◌, ◌%◌, ◌<◌}
use native.Mathlib.Nat.{zero-add, suc-add, suc-mul, zero-mul, div-add-mod'}
use lib.Dec.{lit<}
use Rattle.galois.specs.Gf.{mul, pow}
use Rattle.galois.proofs.Mul.{mul_comm, mul_assoc, mul_one, mul_lt}

module _ (p : ℕ) (hp : p < 256) where
  pub pow_none : (a : ℕ) → pow p a 0 ≡ 1
  unfolding pow
  pow_none a = refl

  pub pow_more : (a n : ℕ) → pow p a (suc n) ≡ mul p a (pow p a n)
  unfolding pow
  pow_more a n = refl

  pub pow_lt : (a n : ℕ) → pow p a n < 256
  pow_lt a zero = subst (λ (x : ℕ). x < 256) (sym (pow_none a)) (lit< tt)
  pow_lt a (suc n) = subst (λ (x : ℕ). x < 256) (sym (pow_more a n)) (mul_lt p hp a (pow p a n))

  one_mul : (a : ℕ) → a < 256 → mul p 1 a ≡ a
  one_mul a h = mul_comm p 1 a ∙ mul_one p a h

  pub pow_sum : (a m n : ℕ) → pow p a (m + n) ≡ mul p (pow p a m) (pow p a n)
  pow_sum a zero n =
      ap (pow p a) (zero-add n) ∙ sym (one_mul (pow p a n) (pow_lt a n)) ∙ ap (λ (x : ℕ). mul p x (pow p a n)) (sym (pow_none a))
  pow_sum a (suc m) n =
      ap (pow p a) (suc-add m n) ∙ pow_more a (m + n) ∙ ap (mul p a) (pow_sum a m n) ∙ sym (mul_assoc p hp a (pow p a m) (pow p a n))
      ∙ ap (λ (x : ℕ). mul p x (pow p a n)) (sym (pow_more a m))

  pub pow_one : (n : ℕ) → pow p 1 n ≡ 1
  pow_one zero = pow_none 1
  pow_one (suc n) = pow_more 1 n ∙ ap (mul p 1) (pow_one n) ∙ one_mul 1 (lit< tt)

  pub pow_product : (a m n : ℕ) → pow p a (n * m) ≡ pow p (pow p a m) n
  pow_product a m zero = ap (pow p a) (zero-mul m) ∙ pow_none a ∙ sym (pow_none (pow p a m))
  pow_product a m (suc n) =
      ap (pow p a) (suc-mul n m) ∙ pow_sum a (n * m) m ∙ ap (λ (x : ℕ). mul p x (pow p a m)) (pow_product a m n)
      ∙ mul_comm p (pow p (pow p a m) n) (pow p a m) ∙ sym (pow_more (pow p a m) n)

  -- where the m-th power is 1, exponents count modulo m
  pub pow_cycle : (a m n : ℕ) → pow p a m ≡ 1 → pow p a n ≡ pow p a (n % m)
  pow_cycle a m n e =
      ap (pow p a) (sym (div-add-mod' n m)) ∙ pow_sum a (n / m * m) (n % m)
      ∙ ap (λ (x : ℕ). mul p x (pow p a (n % m))) (pow_product a m (n / m) ∙ ap (λ (x : ℕ). pow p x (n / m)) e ∙ pow_one (n / m))
      ∙ one_mul (pow p a (n % m)) (pow_lt a (n % m))
