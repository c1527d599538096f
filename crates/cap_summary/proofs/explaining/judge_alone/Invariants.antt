use Rattle.cap_summary.specs.{Positions.found_in, Positions.positions, start_state, length, take, ◌-◌, ◌≡◌, ◌≤◌}
use Rattle.cap_summary.proofs.explaining.judge_alone.Given as goal

abbrev pub invariant-loop-count : goal.invariant-loop-count
invariant-loop-count l = record {
  found : l.report.found.items ≡ found_in l.asked 0 (start_state l.start) (take l.count l.node.steps);
  counted : l.report.judged ≤ l.count;
  all : l.report.judged ≤ length l.node.steps;
  each : positions l.report.found.items ≤ l.report.judged;
}

abbrev pub decreases-loop-count : goal.decreases-loop-count
decreases-loop-count l = l.last - l.count
