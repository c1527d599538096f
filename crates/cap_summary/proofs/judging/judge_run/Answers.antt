use Rattle.std.specs.Prelude.{List, length, take, ℕ, ◌++◌, ◌+◌, ◌≡◌}
use Rattle.cap_summary.proofs.{Judged.more_judged, Judged.none_judged, Resolving.found_in_first, Runs.values-take, sym}
use Rattle.cap_summary.proofs.{ap, arith, length-map, length-take-le, take_all, ◌∙◌}
use Rattle.cap_summary.proofs.Knowing.{after_more, one_more}
use Rattle.cap_summary.specs.{Effects.changed, Effects.state_before, Global, Positions.found_in, Positions.said_in, Rc}
use Rattle.cap_summary.specs.{Entry, Found, Keys.cells_of, Keys.state_of, State, Step, said, values}
use Rattle.cap_summary.proofs.judging.judge_run.Goals as goal

pub loop-step-init : goal.loop-step-init
loop-step-init c = record {
  counted = omega arith;
  position = omega arith;
  judged = none_judged c.args.asked.now c.args.at (state_before c.args.before.now) c.args.report.now.found.items
      c.empty-effect.result c.empty-effect.ensures.cells;
}

pub loop-step-preserved : goal.loop-step-preserved
loop-step-preserved c =
    let s : State = state_before c.args.before.now in
    let step : Step = c.step-item.result.value in
    let n : ℕ = c.loop-step.step-index in
    let read : List (Rc Step Global) = take c.min.result c.args.run.now in
    let run : List (Rc Step Global) = take n read in
    let first : List Found = c.loop-step.report.found.items in
    let all : List Found = c.note_line.new.found.items in
    let rule = c.rule_of-rule.ensures in
    let here : c.deref.result.now ≡ step = c.deref.ensures in
    let pid : c.line.inside.pid ≡ step.line.pid =
    ap (λ (e : Entry). e.pid) (rw (c.view-line.ensures, here) at c.line.view_is) in
    let position : c.loop-step.position + 1 ≡ c.args.at + n + 1 = omega (arith, c.loop-step.invariant.position) in
    let said_here : all ≡ first ++ said_in c.args.asked.now (c.args.at + n + 1)
    (said step (state_of (changed c.loop-step.effect (cells_of s)))) =
    rw (position, pid, rule.requirement, c.view-line.ensures, here)
    at c.in_ok-note_line.ensures in
    let len : n ≡ length (values run) =
    sym (length-map run (λ (item : Rc Step Global). item.value)
    ∙ length-take-le n read (omega (arith, c.loop-step-test.true))) in
    record {
      counted = omega (arith, c.loop-step.invariant.counted);
      position = omega (arith, c.loop-step.invariant.position);
      judged = rw (one_more read n c.step-item.result c.loop-step-test.true c.step-item.is)
          (more_judged c.args.asked.now c.args.at n s (values run) c.args.report.now.found.items first all
          c.loop-step.effect c.push.new.self step c.loop-step.invariant.judged len said_here
          (after_more step c.rule_of-rule.result.effect c.line.inside.pid
          (λ p f. rw pid (rw (c.view-line.ensures, c.deref-in-loop-step.ensures, here) at (rule.cells p f)))
          (λ p. rw pid (rw (c.view-line.ensures, here) at (rule.modes p)))
          c.loop-step.effect c.push.new.self (values run) s c.loop-step.invariant.judged.after
          c.in_ok-push.ensures.cells));
    }

pub returns-clause-found : goal.returns-clause-found
returns-clause-found c =
    let s : State = state_before c.args.before.now in
    let run : List (Rc Step Global) = c.args.run.now in
    let last : ℕ = c.min.result in
    let long : length (values run) ≡ length run = length-map run (λ (item : Rc Step Global). item.value) in
    rw (take_all c.loop-step.step-index (take last run) (omega arith)) at c.loop-step.invariant.judged.findings
    ∙ ap (λ (r : List Found). c.args.report.now.found.items ++ r)
    (ap (found_in c.args.asked.now c.args.at s) (sym (values-take last run)) ∙ found_in_first c.args.asked.now c.args.at
    last s (values run) (λ short. omega (arith, long, short, c.min.ensures)))
