use Rattle.cap_summary.specs.{Again.IsPassed, Again.begins, Again.new_steps, Again.old_steps, KeptRuns.steps_of, Kept.IsKept}
use Rattle.cap_summary.specs.{Found, Keys.cells_of, List, State, Step, check, ended, later, length, map, take}
use Rattle.cap_summary.specs.{◌++◌, ◌≡◌}
use Rattle.cap_summary.proofs.{Knowing.cells_after, Searching.all_found, Searching.all_state, ap, arith, sym, ◌∙◌}
use Rattle.cap_summary.proofs.again.Passed.keep_node.Goals.{In_ok-catch_up}
use Rattle.cap_summary.proofs.again.Passed.keep_node.Goals as goal

caught : (c : In_ok-catch_up) → IsPassed c.args.again.now c.catch_up.new.self c.args.at
caught c = c.in_ok-catch_up.ensures.passed c.args.at c.requires.here c.requires.passed

pub returns-then-not-agree_in-clause-left : goal.returns-then-not-agree_in-clause-left
returns-then-not-agree_in-clause-left c = λ is.
    let passed = caught (goal.at.returns-then-not-agree_in-clause-left c).In_ok-catch_up in
    record { within = passed.within; differ = passed.differ; found = passed.found }

pub returns-clause-kept : goal.returns-clause-kept
returns-clause-kept c = λ yes.
    let at = (goal.at.returns-clause-kept c).In_ok-catch_up in
    let again = c.args.again.now in
    let was = c.args.was in
    let n = c.args.at in
    let t : List Step = c.args.node.now.steps in
    let old : List Step = old_steps again in
    let new : List Step = new_steps again in
    let s : State = ended (begins again) (take was old) in
    let r : State = ended (begins again) (take n new) in
    let kept : IsKept c.unwrap-known.result.now t = rw c.unwrap-known.ensures at c.known.ensures.kept in
    let differ = rw c.in_ok-catch_up.ensures.there at (caught at).differ in
    let agree = rw c.deref.ensures at
    (c.agree_in.ensures c.if-not-agree_in.false (cells_of s) (cells_of r) differ) in
    let same : check s t ≡ check r t = kept.knows.same s r agree in
    let steps : steps_of old was (length t) ≡ t = sym c.requires.kept.same ∙ c.requires.placed.same in
    let same_at = c.requires.placed.same in
    let b : State = begins again in
    let says = kept.knows in
    let effect = c.unwrap-known.result.now.effect.value in
    let pre = c.unwrap-known.result.now.precondition.value in
    let through = rw c.deref-2.ensures at (c.in_ok-self.ensures (cells_of s) (cells_of r) differ) in
    rw c.len-2.ensures.count (record {
      within = omega (arith, c.requires.kept.within_old);
      differ = rw (
        ← all_state b old t was (length t) steps,
        ← all_state b new t n (length t) same_at,
      ) (rw (cells_after effect pre t says s, cells_after effect pre t says r) at through);
      found = c.in_ok-copy.ensures
          ∙ ap (λ (l : List Found). l ++ map (later n) (check s (steps_of old was c.len.result))) (caught at).found
          ∙ ap (λ k. check b (take n new) ++ map (later n) (check s (steps_of old was k))) c.len.ensures.count
          ∙ ap (λ (l : List Step). check b (take n new) ++ map (later n) (check s l)) steps
          ∙ ap (λ (l : List Found). check b (take n new) ++ map (later n) l) same
          ∙ sym (all_found b new t n (length t) same_at (omega (arith, c.requires.placed.within)));
    })
