use Rattle.cap_summary.specs.{Again.begins, Again.old_steps}
use Rattle.cap_summary.specs.{List, State, Step, [], ended, take, ◌+◌, ◌++◌, ◌∷◌, ◌≡◌}
use Rattle.cap_summary.proofs.{ap, arith, ends_in_turn, sym, take_more, ◌∙◌}
use Rattle.cap_summary.proofs.again.Passed.leave_one.Goals as goal

pub returns-clause-passed : goal.returns-clause-passed
returns-clause-passed c = λ at here passed.
    let again = c.args.again.now in
    let was = c.args.self.now.was in
    let old : List Step = old_steps again in
    let step : Step = c.step-step.result.now in
    let s : State = ended (begins again) (take was old) in
    let differ = rw (← here) at passed.differ in
    let next : ended s (step ∷ []) ≡ ended (begins again) (take (was + 1) old) =
    sym (ends_in_turn (begins again) (take was old) (step ∷ [])) ∙ ap (ended (begins again))
    (sym (take_more old was step c.requires.more ∙ ap (λ (x : Step). take was old ++ x ∷ []) c.step-step.ensures)) in
    record {
      within = omega (arith, c.requires.more);
      differ = rw (next, here) at (c.in_ok-take_step.ensures s differ c.if-not-branch.false);
      found = passed.found;
    }
