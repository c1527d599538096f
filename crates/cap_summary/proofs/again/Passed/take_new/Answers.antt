use Rattle.cap_summary.specs.{Again.begins, Again.new_steps, Again.old_steps, Effects.state_before, Found, List, State}
use Rattle.cap_summary.specs.{Step, check, ended, found_at, map, said, take, ◌++◌, ◌+◌}
use Rattle.cap_summary.proofs.{Searching.one_more_found, Searching.one_more_step, ap, arith, sym, ◌∙◌}
use Rattle.cap_summary.proofs.again.Passed.take_new.Goals as goal

pub returns : goal.returns
returns c =
    let again = c.args.again.now in
    let n = c.args.at in
    let step : Step = c.args.step.now in
    let new : List Step = new_steps again in
    let so_far = c.requires.passed in
    let here = c.requires.here in
    let differ = rw (← here) at so_far.differ in
    record {
      within = so_far.within;
      differ = rw (one_more_step (begins again) new n step c.requires.placed.same, ← here)
          (c.in_ok-take_step.ensures (ended (begins again) (take c.args.self.now.was (old_steps again))) differ
          c.if-not-branch.false);
      found = c.in_ok-judge.ensures ∙ ap (λ (l : List Found). l ++ map (found_at (n + 1))
          (said step (state_before c.args.before.now))) so_far.found
          ∙ ap (λ (s : State). check (begins again) (take n new) ++ map (found_at (n + 1)) (said step s)) here
          ∙ sym (one_more_found (begins again) new n step c.requires.placed.same (omega (arith, c.requires.placed.within)));
    }
