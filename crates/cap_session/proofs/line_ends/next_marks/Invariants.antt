use Rattle.std.proofs.Common.{◌≤◌, ◌-◌, length}
use Rattle.cap_session.specs.Code.LineEnds.{IsWithin}
use Rattle.cap_session.proofs.line_ends.next_marks.Given as goal

abbrev pub invariant-loop-from : goal.invariant-loop-from
invariant-loop-from l = record {
  within : l.from ≤ length l.text;
  before : IsWithin l.text l.from;
}

abbrev pub decreases-loop-from : goal.decreases-loop-from
decreases-loop-from l = length l.text - l.from
