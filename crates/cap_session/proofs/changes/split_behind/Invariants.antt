use Rattle.std.proofs.Common.{◌-◌, ◌≤◌, length, take}
use Rattle.cap_session.specs.Code.Walked.{RiseWithin}
use Rattle.cap_session.proofs.changes.split_behind.Given as goal

abbrev pub invariant-loop-count : goal.invariant-loop-count
invariant-loop-count l = record {
  within : l.count ≤ length l.found;
  front : RiseWithin 0 l.last (take l.count l.found);
}

abbrev pub decreases-loop-count : goal.decreases-loop-count
decreases-loop-count l = length l.found - l.count
