-- A line that fits is put whole, and a piece that got an answer is counted.
-- Assumes nothing.
use mathlib.Core.Path.{◌≡◌, sym, ap, ◌∙◌}
use mathlib.Core.Bool.{Bool}
use mathlib.Core.List.{List, ◌++◌}
use Prim.Native.Nat.{ℕ, ◌+◌, ◌≤◌}
use native.Mathlib.Omega.{arith}
use borrow.Author.Tests.{le-ltb}
use lib.Dec.{eqb}
use lib.ListN.{length, drop}
use Rattle.std.specs.Prelude.{Result, Ok, Err, Some, IsOk, is_ok}
use Rattle.answers.specs.Number.{Answer, number_of}
use Rattle.answers.specs.declared.RLNCError.{RLNCError}
use Rattle.answers.specs.declared.RLNCError.TheVariants.{NoRoom}
use Rattle.linear.specs.Choice.{pick}
use Rattle.decoder.specs.declared.Decoder.{Decoder}
use Rattle.decoder.specs.Records.{rows_in, taken_by}
use Rattle.listing.specs.declared.join.Joining.{Joining}
use Rattle.listing.specs.Puts.{Lined}
use Rattle.listing.specs.Joining.{joined, line_of}
use Rattle.listing.specs.Steps.{stepped, Counted}
use Rattle.listing.proofs.Short.{piece_short}

module _ {line out last : List ℕ} {r : Result ℕ RLNCError} (l : Lined line out r last) (h : length line ≤ length out) where
  pub put_bytes : r ≡ Ok (length line)
  put_bytes = l.result ∙ ap (λ (t : Bool). pick t (Err NoRoom) (Ok (length line))) (le-ltb _ _ h)

  pub put_text : last ≡ line ++ drop (length line) out
  put_text = l.left ∙ ap (λ (t : Bool). pick t out (line ++ drop (length line) out)) (le-ltb _ _ h)

  pub put_ok : IsOk r
  put_ok = ap is_ok put_bytes

  pub put_size : (n : ℕ) → r ≡ Ok n → n ≡ length line
  put_size n e = let b : ◌≡◌ {A = Result ℕ RLNCError} (Ok n) (Ok (length line)) = sym e ∙ put_bytes in cc

  pub put_whole : (e : RLNCError) → r ≡ Err e → ⊥
  put_whole e q =
      let b : Err e ≡ Ok (length line) = sym q ∙ put_bytes in
      let z : ◌≡◌ {A = ℕ} 0 1 = cc in
      omega arith

module _ (j : Joining) (d : Decoder) (answer : Answer) {out last : List ℕ} {r : Result ℕ RLNCError}
    (l : Lined (line_of j d (number_of answer)) out r last) (h : 84 ≤ length out) where
  fits : length (line_of j d (number_of answer)) ≤ length out
  unfolding line_of
  fits = omega (arith, piece_short (j.pieces + 1) (number_of answer) (rows_in d) (taken_by d))

  pub counts_always : IsOk r
  counts_always = put_ok l fits

  pub counts : (repeats size : ℕ) → r ≡ Ok size → repeats ≡ j.repeats + pick (eqb (number_of answer) 8) 1 0
      → Counted j d answer out (stepped (record { held = Some d; pieces = j.pieces + 1; repeats = repeats }) size) last
  unfolding joined
  counts repeats size e more =
      record {
        result = λ i. stepped (record { held = Some d; pieces = j.pieces + 1; repeats = more i }) (put_size l fits size e i);
        left = put_text l fits;
      }
