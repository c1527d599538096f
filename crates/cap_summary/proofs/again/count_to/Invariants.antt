use Rattle.std.specs.Prelude.{length, slice_index_or, ◌-◌, ◌<◌, ◌≤◌}
use Rattle.cap_summary.specs.{Found}
use Rattle.cap_summary.proofs.again.count_to.Given as goal

abbrev pub invariant-loop-low : goal.invariant-loop-low
invariant-loop-low l = record {
  order : l.low ≤ l.high;
  within : l.high ≤ length l.found;
  below : (d : Found) → 0 < l.low → (slice_index_or l.found (l.low - 1) d).at ≤ l.steps;
  above : (d : Found) → l.high < length l.found → l.steps < (slice_index_or l.found l.high d).at;
}

abbrev pub decreases-loop-low : goal.decreases-loop-low
decreases-loop-low l = l.high - l.low
