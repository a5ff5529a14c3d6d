-- A polynomial with a table of the powers of a generator and one of the logarithms: what a crate has to show of its two tables, by computation,
-- and all that its functions then cite.
-- Assumes nothing.
use mathlib.Core.Path.{◌≡◌, sym, ap, ap₂, ◌∙◌, subst}
use mathlib.Core.Bool.{Bool}
use mathlib.Core.List.{List}
use Prim.Native.Nat.{ℕ, zero, suc, ◌+◌, ◌-◌, ◌%◌, ◌<◌}
use native.Mathlib.Omega.{arith}
use lib.Dec.{T, eqb, ltb, eqb→eq, ltb→lt}
use lib.ListN.{length, get_or, take, length-take}
use lib.Seq.{get_or-take}
use Rattle.galois.specs.Gf.{mul, pow, inv}
use Rattle.galois.specs.Tables.{exp_entry, LogEntry}
use Rattle.galois.specs.FieldLaws.{FieldLaws}
use Rattle.galois.proofs.Pow.{pow_none, pow_more, pow_cycle, pow_sum, pow_lt}
use Rattle.galois.proofs.Field.{inv_unique}
use Rattle.galois.proofs.Generator.{field_of}
use Rattle.galois.proofs.Table.{both, both_left, both_right, every, at, rising, rising_at}

-- an entry of the logarithms, against the powers: of 0 it is 0, and of any other byte the place, below 255, of the byte
abbrev pub logged : List ℕ → ℕ → ℕ → Bool
logged powers zero l = eqb l 0
logged powers (suc a) l = both (ltb l 255) (eqb (get_or powers l 0) (suc a))

-- an entry of the powers, against the logarithms: its logarithm is its place
abbrev pub placed : List ℕ → ℕ → ℕ → Bool
placed logs i x = eqb (get_or logs x 0) i

pub record Tables (p g : ℕ) (powers logs : List ℕ) : Type 0 where
  pub small : p < 256
  pub rises : T (rising (mul p g) 1 powers)
  pub many : length powers ≡ 510
  pub back : get_or powers 255 0 ≡ 1
  pub fits : T (every (logged powers) 0 logs)
  pub all : length logs ≡ 256
  pub places : T (every (placed logs) 0 (take 255 powers))

module _ (p g : ℕ) (powers logs : List ℕ) (t : Tables p g powers logs) where
  power_at : (k : ℕ) → k < 510 → get_or powers k 0 ≡ pow p g k
  power_at k h =
      rising_at (mul p g) (pow p g) (pow_more p t.small g) powers
      (subst (λ (x : ℕ). T (rising (mul p g) x powers)) (sym (pow_none p t.small g)) t.rises) k (subst (λ (n : ℕ). k < n) (sym t.many) h)

  pub cycle : pow p g 255 ≡ 1
  cycle = sym (power_at 255 (omega arith)) ∙ t.back

  -- the power rule, at every entry
  pub power_rule : (i : ℕ) → i < 510 → get_or powers i 0 ≡ exp_entry p g i
  unfolding exp_entry
  power_rule i h = power_at i h ∙ pow_cycle p t.small g 255 i cycle

  passed : (a : ℕ) → a < 256 → T (logged powers a (get_or logs a 0))
  passed a h = at (logged powers) logs t.fits a (subst (λ (n : ℕ). a < n) (sym t.all) h)

  log_zero : get_or logs 0 0 ≡ 0
  log_zero = eqb→eq (get_or logs 0 0) 0 (passed 0 (omega arith))

  log_below : (a : ℕ) → a < 256 → get_or logs a 0 < 255
  log_below zero h = omega (arith, log_zero)
  log_below (suc a) h =
      ltb→lt (get_or logs (suc a) 0) 255 (both_left (ltb (get_or logs (suc a) 0) 255) (eqb (get_or powers (get_or logs (suc a) 0) 0) (suc a)) (passed (suc a) h))

  pub log_power : (a : ℕ) → 0 < a → a < 256 → pow p g (get_or logs a 0) ≡ a
  log_power zero h l = omega arith
  log_power (suc a) h l =
      let low : get_or logs (suc a) 0 < 255 = log_below (suc a) l in
      sym (power_at (get_or logs (suc a) 0) (omega arith))
      ∙ eqb→eq (get_or powers (get_or logs (suc a) 0) 0) (suc a)
      (both_right (ltb (get_or logs (suc a) 0) 255) (eqb (get_or powers (get_or logs (suc a) 0) 0) (suc a)) (passed (suc a) l))

  -- the log inverse, at every byte
  pub log_rule : (a : ℕ) → a < 256 → LogEntry p g a (get_or logs a 0)
  log_rule a h = record { below = log_below a h; power = λ pos. log_power a pos h; none = λ z. ap (λ (n : ℕ). get_or logs n 0) z ∙ log_zero }

  -- and the other way round, at every power: so that a log entry is the only one
  pub log_of_power : (i : ℕ) → i < 255 → get_or logs (pow p g i) 0 ≡ i
  log_of_power i h =
      ap (λ (x : ℕ). get_or logs x 0) (sym (power_at i (omega arith)) ∙ sym (get_or-take 255 powers i 0 h))
      ∙ eqb→eq (get_or logs (get_or (take 255 powers) i 0) 0) i (at (placed logs) (take 255 powers) t.places i in_range)
    where
      in_range : i < length (take 255 powers)
      in_range = simp (length-take, t.many) (omega arith)

  pub log_unique : (a l : ℕ) → 0 < a → LogEntry p g a l → l ≡ get_or logs a 0
  log_unique a l pos e = sym (log_of_power l e.below) ∙ ap (λ (x : ℕ). get_or logs x 0) (e.power pos)

  abbrev pub the_field : FieldLaws
  the_field = field_of p t.small g cycle (λ a. get_or logs a 0) log_power

  -- ---- the product and the inverse by logarithms

  pub by_logs : (a b l r : ℕ) → 0 < a → 0 < b → LogEntry p g a l → LogEntry p g b r → exp_entry p g (l + r) ≡ mul p a b
  unfolding exp_entry
  by_logs a b l r ha hb x y =
      sym (pow_cycle p t.small g 255 (l + r) cycle) ∙ pow_sum p t.small g l r ∙ ap₂ (mul p) (x.power ha) (y.power hb)

  pub inv_by_log : (a l : ℕ) → 0 < a → a < 256 → LogEntry p g a l → exp_entry p g (255 - l) ≡ inv p a
  unfolding exp_entry
  inv_by_log a l pos h x =
      let k : l < 255 = x.below in
      inv_unique the_field a (pow p g ((255 - l) % 255)) h (pow_lt p t.small g ((255 - l) % 255))
      (ap₂ (mul p) (sym (x.power pos)) (sym (pow_cycle p t.small g 255 (255 - l) cycle)) ∙ sym (pow_sum p t.small g l (255 - l))
      ∙ ap (pow p g) (omega arith) ∙ cycle)
