use Rattle.std.proofs.Common.{length, ◌-◌, ◌≤◌}
use Rattle.cap_trace.proofs.ByteRuns.{NameBegins}
use Rattle.cap_trace.proofs.fast_path.names_before.Given as goal

abbrev pub invariant-loop-from : goal.invariant-loop-from
invariant-loop-from l = (l.from ≤ length l.text) × NameBegins l.text l.from

abbrev pub decreases-loop-from : goal.decreases-loop-from
decreases-loop-from l = length l.text - l.from
