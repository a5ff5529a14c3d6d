-- Every run of the machine hands over what the purpose says: it ends as the stream closes.
-- Assumes nothing.
use mathlib.Core.Path.{◌≡◌, ap, ◌∙◌}
use mathlib.Core.List.{List}
use Prim.Native.Nat.{ℕ}
use lib.ListN.{length, take, drop}
use lib.Seq.{take-append_seam}
use Rattle.galois.specs.FieldLaws.{FieldLaws}
use Rattle.stream.specs.declared.Geometry.{Geometry}
use Rattle.joiner.specs.Machine.{over}
use Rattle.joiner.specs.Runs.{Close, close_of}
use Rattle.joiner.proofs.Closes.{ends_as}
use Rattle.demands.specs.Purpose.{sent, Purpose}
use Rattle.demands.specs.HandsOver.{EveryRun, HandsOver}

ends_so : (𝓕 : FieldLaws) (input : List ℕ) (c : Close) → close_of 𝓕 input ≡ c
    → EveryRun 𝓕 input (λ area last block. (last.ending ≡ c.ending) × (block ≡ over c.found area))
ends_so 𝓕 input c e small n area text last block run =
    let (ending, left) = ends_as 𝓕 small run in
    (ending ∙ ap (λ (c : Close). c.ending) e, left ∙ ap (λ (c : Close). over c.found area) e)

pub hands_over : (𝓕 : FieldLaws) (g : Geometry) (bytes : List ℕ) (pieces counted : List (List ℕ))
    → Purpose 𝓕 g bytes pieces counted → HandsOver 𝓕 g bytes pieces counted
hands_over 𝓕 g bytes pieces counted p =
    record {
      rebuilt = λ u behind small n area text last block run.
          let (ending, left) = ends_so 𝓕 (sent g pieces behind) _ (p.rebuilt u behind).1 small n area text last block run in
          (ending, ap (take (length bytes)) left ∙ take-append_seam bytes (drop (length bytes) area));
      left_open = λ a behind. ends_so 𝓕 (sent g pieces behind) _ (p.left_open a behind).1;
    }
