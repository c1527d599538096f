use Rattle.cap_summary.specs.{Again.IsPassed, Again.begins, Again.new_steps, Again.old_steps, Found, List, State, Step}
use Rattle.cap_summary.specs.{Effects.state_before, said, KeptRuns.steps_of, [], check, ended, map, found_at, take, ◌++◌, ◌+◌, ◌∷◌, ◌≡◌}
use Rattle.cap_summary.proofs.{Searching.one_more_found, Searching.one_more_step, ap, arith, sym, ◌∙◌}
use Rattle.cap_summary.proofs.again.Passed.keep_step.Goals.{In_ok-catch_up}
use Rattle.cap_summary.proofs.again.Passed.keep_step.Goals as goal

caught : (c : In_ok-catch_up) → IsPassed c.args.again.now c.catch_up.new.self c.args.at
caught c = c.in_ok-catch_up.ensures.passed c.args.at c.requires.here c.requires.passed

pub find_kept-requires : goal.find_kept-requires
find_kept-requires c =
    let at = (goal.at.find_kept-requires c).In_ok-catch_up in record {
      again = c.requires.again;
      kept = c.requires.kept;
      placed = c.requires.placed;
      differ = rw c.requires.here (rw c.in_ok-catch_up.ensures.there at (caught at).differ);
    }

pub returns : goal.returns
returns c =
    let at = (goal.at.returns c).In_ok-catch_up in
    let again = c.args.again.now in
    let was = c.args.was in
    let n = c.args.at in
    let step : Step = c.args.step.now in
    let old : List Step = old_steps again in
    let new : List Step = new_steps again in
    let so_far = caught at in
    let steps : steps_of old was 1 ≡ step ∷ [] = sym c.requires.kept.same ∙ c.requires.placed.same in
    let differ = rw c.in_ok-catch_up.ensures.there at so_far.differ in
    record {
      within = omega (arith, c.requires.kept.within_old);
      differ = rw (
        one_more_step (begins again) old was step steps,
        one_more_step (begins again) new n step
            c.requires.placed.same,
      ) (c.in_ok-self.ensures (ended (begins again) (take was old))
          (ended (begins again) (take n new)) differ);
      found = c.in_ok-find_kept.ensures ∙ ap (λ (l : List Found). l ++ map (found_at (n + 1))
          (said step (state_before c.args.before.now))) so_far.found
          ∙ ap (λ (s : State). check (begins again) (take n new) ++ map (found_at (n + 1)) (said step s)) c.requires.here
          ∙ sym (one_more_found (begins again) new n step c.requires.placed.same (omega (arith, c.requires.placed.within)));
    }
