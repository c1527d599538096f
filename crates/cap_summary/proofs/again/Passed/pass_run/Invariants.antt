use Rattle.cap_summary.specs.{Again.IsPassed, Effects.changed, Effects.state_before, Keys.cells_of, ended, take, values, ℕ}
use Rattle.cap_summary.specs.{declared.key.Key.Key, ◌+◌, ◌≡◌}
use Rattle.cap_summary.proofs.again.Passed.pass_run.Given as goal

abbrev pub invariant-loop-step : goal.invariant-loop-step
invariant-loop-step l = record {
  place : l.place ≡ l.at + l.step-index;
  after : (p : ℕ) (k : Key) → changed l.effect (cells_of (state_before l.before)) p k
      ≡ cells_of (ended (state_before l.before) (values (take l.step-index l.run))) p k;
  passed : IsPassed l.again l.self (l.at + l.step-index);
}
