use Rattle.cap_summary.specs.{Again.begins, Again.new_steps, Effects.state_before, List, State, Step, length, values}
use Rattle.cap_summary.specs.{Keys.cells_of, ended, Global, Rc, take, ◌+◌, ◌<◌, ◌≡◌}
use Rattle.cap_summary.proofs.{Judged.ends_so, Knowing.one_more, Runs.values-take, ap, arith, length-map, sym}
use Rattle.cap_summary.proofs.{Searching.run_state, Searching.step_placed, Searching.value_at, ◌∙◌}
use Rattle.cap_summary.proofs.again.Passed.pass_run.Goals as goal

pub loop-step-init : goal.loop-step-init
loop-step-init c = record {
  place = omega arith;
  after = c.empty-effect.ensures.cells (cells_of (state_before c.args.before.now));
  passed = let none : c.args.at ≡ c.args.at + 0 = omega arith in rw none at c.requires.passed;
}

pub pass_step-requires : goal.pass_step-requires
pass_step-requires c =
    let again = c.args.again.now in
    let run : List (Rc Step Global) = c.args.run.now in
    let i = c.loop-step.step-index in
    let at = c.args.at in
    let here : c.deref.result.now ≡ c.step-item.result.value = c.deref.ensures in
    let place = c.loop-step.invariant.place in
    let long : length (values run) ≡ length run = length-map run (λ (item : Rc Step Global). item.value) in
    let within : i < length (values run) = omega (arith, long, c.loop-step-test.true) in
    record {
      again = c.requires.again;
      placed = record {
        within = omega (arith, place, within, c.requires.placed.within);
        same = rw (place, here) (step_placed (new_steps again) (values run) at i c.step-item.result.value
            c.requires.placed.same within (value_at run i c.step-item.result c.loop-step-test.true c.step-item.is));
      };
      here = rw place (ends_so c.loop-step.effect (values (take i run)) (state_before c.args.before.now)
          c.loop-step.invariant.after ∙ ap (λ (t : List Step). ended (state_before c.args.before.now) t) (sym (values-take i run))
          ∙ ap (λ (s : State). ended s (take i (values run))) c.requires.here ∙ run_state (begins again) (new_steps again)
          (values run) at i c.requires.placed.same (omega (arith, within)));
      passed = rw place c.loop-step.invariant.passed;
    }

pub loop-step-preserved : goal.loop-step-preserved
loop-step-preserved c =
    let run : List (Rc Step Global) = c.args.run.now in
    let i = c.loop-step.step-index in
    let place = c.loop-step.invariant.place in
    let next : c.loop-step.place + 1 ≡ c.args.at + (i + 1) = omega (arith, place) in record {
      place = next;
      after = rw (one_more run i c.step-item.result c.loop-step-test.true c.step-item.is, ← c.deref-in-loop-step.ensures)
          (c.in_ok-push_step.ensures (state_before c.args.before.now) (values (take i run)) c.loop-step.invariant.after);
      passed = rw next at c.in_ok-pass_step.ensures;
    }

pub returns : goal.returns
returns c =
    let all : c.loop-step.step-index ≡ length c.args.run.now = omega arith in
    let passed = rw all at c.loop-step.invariant.passed in
    record { within = passed.within; differ = passed.differ; found = passed.found }
