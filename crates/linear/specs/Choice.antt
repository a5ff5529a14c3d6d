-- The two ways in which the definitions choose.
use Rattle.std.specs.Prelude.{Bool, true, false, ℕ, zero, suc}

-- the first if the test holds, else the second
abbrev pub pick {ℓ} : {A : Type ℓ} → Bool → A → A → A
pick true a b = a
pick false a b = b

-- the first if the number is zero, else the second
abbrev pub if_zero {ℓ} : {A : Type ℓ} → ℕ → A → A → A
if_zero zero a b = a
if_zero (suc n) a b = b
