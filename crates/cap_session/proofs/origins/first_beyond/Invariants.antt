use Rattle.std.proofs.Common.{◌-◌, ◌+◌, ◌<◌, ◌≤◌, length}
use Rattle.std.specs.List.{AllWithin}
use Rattle.cap_session.proofs.origins.first_beyond.Given as goal

abbrev pub invariant-loop-low : goal.invariant-loop-low
invariant-loop-low l = record {
  order : l.low ≤ l.high;
  within : l.high ≤ length l.runs;
  before : AllWithin (λ run. run.at + run.len ≤ l.at) l.runs 0 l.low;
  behind : AllWithin (λ run. l.at < run.at + run.len) l.runs l.high (length l.runs);
}

abbrev pub decreases-loop-low : goal.decreases-loop-low
decreases-loop-low l = l.high - l.low
