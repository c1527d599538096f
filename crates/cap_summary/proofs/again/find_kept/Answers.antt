use Rattle.cap_summary.specs.{Again.begins, Again.old_steps, KeptRuns.steps_of, List, State, Step, [], check, ended, map}
use Rattle.cap_summary.specs.{Effects.state_before, Found, found_at, later, said, take, ◌++◌, ◌+◌, ◌∷◌, ◌≡◌}
use Rattle.cap_summary.proofs.{Searching.one_step, ap, on_ok_weaker, sym, ◌∙◌}
use Rattle.cap_summary.proofs.again.find_kept.Goals as goal

pub returns-then-agree_on_step : goal.returns-then-agree_on_step
returns-then-agree_on_step c =
    let again = c.args.again.now in
    let step : Step = c.args.step.now in
    let old : List Step = old_steps again in
    let at = c.args.at in
    let s : State = ended (begins again) (take c.args.was old) in
    let steps : steps_of old c.args.was 1 ≡ step ∷ [] = sym c.requires.kept.same ∙ c.requires.placed.same in
    let same : map (later at) (check s (steps_of old c.args.was 1))
    ≡ map (found_at (at + 1)) (said step (state_before c.args.before.now)) =
    ap (λ (t : List Step). map (later at) (check s t)) steps ∙ one_step at s step
    ∙ ap (map (found_at (at + 1))) (c.agree_on_step.ensures c.if-agree_on_step.true s (state_before c.args.before.now)
    c.requires.differ) in
    on_ok_weaker c.copy.result (λ is. is ∙ ap (λ (l : List Found). c.args.found.now.items ++ l) same) c.copy.ensures
