-- `rows::is_zero`: the chain tests each byte of the part.
use Rattle.std.proofs.Common.{◌≡◌, refl, ◌∙◌, ℕ, zero, suc, List, [], ◌∷◌, nat_eq, ne_eqb, arith, rules, tests}
use Rattle.std.specs.List.{list_all}
use Rattle.std.proofs.lemmas.Iterator.{YieldsList-from_slice}
use Rattle.std.proofs.lemmas.Iterator.Search.{all_from_yields_List}
use Rattle.linear.specs.Rows.{all_zero}
use Rattle.rows.proofs.is_zero.Goals as goal

zero_all : (xs : List ℕ) → list_all (λ x. nat_eq x 0) xs ≡ all_zero xs
unfolding all_zero
zero_all [] = refl
zero_all (zero ∷ xs) = zero_all xs
zero_all (suc x ∷ xs) = rw (ne_eqb (suc x) 0 (λ e. omega arith)) refl

pub returns : goal.returns
returns c =
    all_from_yields_List (λ x. nat_eq x 0) _ _ _ c.all.ensures.ran (YieldsList-from_slice c.args.part.now cc) (λ x b q k. search (rules, tests))
    ∙ zero_all c.args.part.now
