use Rattle.std.specs.Prelude.{length, ◌-◌, ◌≤◌}
use Rattle.cap_summary.proofs.again.last_to.Given as goal

abbrev pub invariant-loop-low : goal.invariant-loop-low
invariant-loop-low l = record { order : l.low ≤ l.high; within : l.high ≤ length l.kept }

abbrev pub decreases-loop-low : goal.decreases-loop-low
decreases-loop-low l = l.high - l.low
