use Rattle.cap_summary.specs.{Effects.state_before, values, length, take, ◌+◌, ◌≡◌}
use Rattle.cap_summary.proofs.Judged.{IsJudged}
use Rattle.cap_summary.proofs.judging.judge_run.Given as goal

abbrev pub invariant-loop-step : goal.invariant-loop-step
invariant-loop-step l = record {
  counted : l.report.judged ≡ l.fn.report.judged + length l.run;
  position : l.position ≡ l.at + l.step-index;
  judged : IsJudged l.asked l.at (state_before l.before) (values (take l.step-index l.read)) l.fn.report.found.items
      l.report.found.items l.effect;
}
