use Rattle.cap_summary.specs.{Knows.Says, Lasts.pids_of, take, values, ◌≡◌}
use Rattle.cap_summary.proofs.known.Known.of_run.Given as goal

abbrev pub invariant-loop-step : goal.invariant-loop-step
invariant-loop-step l = record {
  says : Says l.effect l.precondition (values (take l.step-index l.steps));
  pids : l.pids.items ≡ pids_of (values (take l.step-index l.steps));
}
