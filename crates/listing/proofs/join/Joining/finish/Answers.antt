-- `listing::join::Joining::finish` meets its contract: what recovery answers is what the end line says, and where it found data, they stand at the
-- front of the buffer that they were recovered into.
use Rattle.std.proofs.Common.{arith, sym, ap, ◌∙◌}
use Rattle.std.specs.Result.{result_ok}
use Rattle.std.proofs.Math.Seq.{length-take-le}
use Rattle.answers.specs.Number.{code_of}
use Rattle.listing.proofs.Counting.{put_whole}
use Rattle.listing.proofs.Short.{end_short}
use Rattle.listing.proofs.Ending.{found, not_found, found_data, found_within, end_refused, lines_fit, ended_alone, ended_data}
use Rattle.listing.proofs.join.Joining.finish.Goals as goal
use Rattle.listing.proofs.join.Joining.finish.Goals.{in-Ok+in_ok-size-in-Ok, in-Err+in_ok-size-in-Err}

pub returns-then-saturating_sub-data : goal.returns-then-saturating_sub-data
returns-then-saturating_sub-data c = end_refused (omega arith)

pub slice_bounds-data_lines-end-in-Ok : goal.slice_bounds-data_lines-end-in-Ok
slice_bounds-data_lines-end-in-Ok c = sym (length-take-le _ _ (found_within c.recover-found.ensures c.in-Ok.is))

pub returns-in_err-size-in-Ok : goal.returns-in_err-size-in-Ok
returns-in_err-size-in-Ok c =
    let few = found_within c.recover-found.ensures c.in-Ok.is in
    let size = length-take-le c.in-Ok.n c.recover-found.new.«data» few in
    absurd (put_whole c.data_lines.ensures (lines_fit _ c.args.self.repeats _ (omega (arith, size, c.recover-found.auto.«data»))) _ c.in_err-size-in-Ok.was)

pub returns-in_err-size-in-Err : goal.returns-in_err-size-in-Err
returns-in_err-size-in-Err c = absurd (put_whole c.end_line.ensures (omega (arith, end_short (code_of c.in-Err.e) 0 c.args.self.repeats)) _ c.in_err-size-in-Err.was)

pub returns : goal.returns
returns c =
    elim c.match-found.branch [
      | in-Ok+in_ok-size-in-Ok w ↦
          let x = c.recover-found.ensures in
          let few = found_within x w.in-Ok.is in
          let size = length-take-le w.in-Ok.n c.recover-found.new.«data» few in
          rw (c.ok.ensures.value ∙ ap result_ok w.found-is, w.out-is, w.size-is)
          (ended_data (omega arith) (found x w.in-Ok.is) (found_data x w.in-Ok.is) (omega (arith, size, c.recover-found.auto.«data»)) w.data_lines.ensures w.in_ok-size-in-Ok.was)
      | in-Err+in_ok-size-in-Err w ↦
          let f = not_found c.recover-found.ensures w.in-Err.is in
          rw (f.1, c.ok.ensures.value ∙ ap result_ok w.found-is, w.out-is, w.size-is) (ended_alone (omega arith) f.0 w.end_line.ensures w.in_ok-size-in-Err.was)
    ]
