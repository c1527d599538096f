use Rattle.std.proofs.Common.{length, ◌-◌, ◌≤◌}
use Rattle.cap_trace.specs.Code.Runs.{Runs}
use Rattle.cap_trace.proofs.runs.Run.end.Given as goal

abbrev pub invariant-loop-at : goal.invariant-loop-at
invariant-loop-at l = (l.fn.from ≤ l.at) × (l.at ≤ length l.text) × Runs l.self l.text l.fn.from l.at

abbrev pub decreases-loop-at : goal.decreases-loop-at
decreases-loop-at l = length l.text - l.at
