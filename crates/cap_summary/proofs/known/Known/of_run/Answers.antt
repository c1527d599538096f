use Rattle.cap_summary.specs.{[], Knows.Says, Lasts.pids_of, List, Step, refl, take, values, ◌++◌, ◌∷◌, ◌≡◌, ℕ}
use Rattle.cap_summary.proofs.{arith, take_all, Knowing.one_more, Knowing.says_none, Knowing.says_same, ap, map-append, sym, ◌∙◌}
use Rattle.cap_summary.proofs.known.Known.of_run.Goals as goal

pub loop-step-init : goal.loop-step-init
loop-step-init c = record {
  says = says_none c.empty-effect.result c.in_ok-precondition.precondition c.empty-effect.ensures.cells
      c.in_ok-precondition.ensures.met c.in_ok-precondition.ensures.each c.empty-effect.ensures.names
      (rw (c.in_ok-precondition.ensures.nothing.1, c.in_ok-precondition.ensures.nothing.2) refl);
  pids = c.in_ok-pids.ensures.items;
}

pub loop-step-preserved : goal.loop-step-preserved
loop-step-preserved c =
    let more = one_more c.args.steps.now c.loop-step.step-index c.step-item.result c.loop-step-test.true c.step-item.is in
    let run : List Step = values (take c.loop-step.step-index c.args.steps.now) in
    let pid : c.in_ok-pid.pid ≡ c.step-item.result.value.line.pid =
    c.in_ok-pid.ensures.pid ∙ ap (λ (s : Step). s.line.pid) c.deref.ensures in
    record {
      says = rw (more, ← c.deref.ensures) (c.in_ok-pid.ensures.says _ c.loop-step.invariant.says);
      pids = c.in_ok-push.ensures.items
          ∙ ap (λ (r : List ℕ). r ++ c.in_ok-pid.pid ∷ []) c.loop-step.invariant.pids
          ∙ ap (λ (p : ℕ). pids_of run ++ p ∷ []) pid
          ∙ sym (ap pids_of more ∙ map-append (λ (s : Step). s.line.pid) run (c.step-item.result.value ∷ []));
    }

pub returns : goal.returns
returns c =
    let all = take_all c.loop-step.step-index c.args.steps.now (omega arith) in
    let so_far : Says c.loop-step.effect c.loop-step.precondition (values c.args.steps.now) =
    rw all at c.loop-step.invariant.says in
    let settled = c.in_ok-settled in
    rw (c.in_ok-effect.ensures.ok, c.in_ok-shared.ensures.ok) (record {
      says = says_same c.loop-step.effect c.loop-step.precondition settled.settled (values c.args.steps.now) so_far
          settled.ensures.met settled.ensures.agree settled.ensures.each settled.ensures.few settled.ensures.refusals;
      settled = settled.ensures.settled;
      pids = rw all at c.loop-step.invariant.pids;
    })
