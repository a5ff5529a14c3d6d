-- `rows::combining::collect`: the starts of the rows before row j are collected.
use Rattle.std.proofs.Common.{◌≤◌, take}
use Rattle.rows.specs.Chosen.{Collected}
use Rattle.rows.proofs.combining.collect.Given as goal

abbrev pub invariant-loop-j : goal.invariant-loop-j
invariant-loop-j l = record { few : l.n ≤ l.j; collected : Collected l.bit l.width (take l.j l.numbers) (take l.n l.starts) }
