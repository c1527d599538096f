use Rattle.std.proofs.Common.{◌≡◌, ◌+◌, ◌≤◌, length}
use Rattle.cap_session.specs.Trace.{counted_lines}
use Rattle.cap_session.proofs.entries.count_lines.Given as goal

abbrev pub invariant-loop-line : goal.invariant-loop-line
invariant-loop-line l = record {
  counted : l.count + counted_lines l.ends ≡ counted_lines l.text;
  few : l.count + length l.ends ≤ length l.text;
}

abbrev pub decreases-loop-line : goal.decreases-loop-line
decreases-loop-line l = length l.ends
