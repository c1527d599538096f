use Rattle.cap_summary.proofs.{Runs.same_steps, ap, arith, inl, inr, length-append, on_ok_weaker, sym, ◌∙◌}
use Rattle.cap_summary.proofs.Resolving.{found_all, found_outside}
use Rattle.cap_summary.proofs.Judged.{known_ends, positions_parts, run_judged, some_positions}
use Rattle.cap_summary.specs.{Asks.has_any, Effects.state_before, Found, Kept.IsKept, Kept.content_steps, State, Step}
use Rattle.cap_summary.specs.{check, List, length, true, ◌++◌, ◌≡◌, ◌≤◌}
use Rattle.cap_summary.proofs.node.Node.+resolve.Goals as goal

pub returns-then-asked-at-clause-found : goal.returns-then-asked-at-clause-found
returns-then-asked-at-clause-found t c =
    let s : State = state_before c.args.before.now in
    let steps : List Step = c.args.self.now.steps in
    let len : c.self.inside.len ≡ length steps = c.self.invariant.len
    ∙ ap (λ (r : List Step). length r) (same_steps c.self.view_is) in
    (found_outside c.args.asked.now c.args.at s steps c.args.report.now.found.items (elim c.then-asked-at.branch [
      | goal.then-asked-at-via-then-asked-at w ↦ inr (omega arith)
      | goal.then-asked-at-via-else-asked-at+then-at-self w ↦ inl (omega (arith, w.if-at-self.true, len))
    ]))

pub returns-else-not-meets-clause-few : goal.returns-else-not-meets-clause-few
returns-else-not-meets-clause-few t c =
    let s : State = state_before c.args.before.now in
    let kept : IsKept c.unwrap-known.result.now c.args.self.now.steps =
    rw c.unwrap-known.ensures at c.known.ensures.kept in
    let finds : has_any (check s c.args.self.now.steps) ≡ true =
    sym (kept.knows.finds s) ∙ sym (rw c.deref.ensures at c.meets.ensures) ∙ c.if-not-meets.false in
    let some = some_positions (check s c.args.self.now.steps) finds in
    let short : length c.in-Run.run'.items ≤ 48 = rw c.in-Run.is at c.self.invariant.parts in
    on_ok_weaker c.judge_run.result (λ last. omega (
      arith,
      some,
      short,
      c.judge_run.ensures.counted,
      ap (λ r. length r) c.deref-in-Run.ensures.value,
    )) c.judge_run.ensures.found

pub returns-else-not-meets-clause-each : goal.returns-else-not-meets-clause-each
returns-else-not-meets-clause-each t c = on_ok_weaker c.judge_run.result (λ last. run_judged c.args.report.now
    c.judge_run.new.report c.args.asked.now c.args.at (state_before c.args.before.now) c.deref-in-Run.result.now last
    c.judge_run.ensures.counted) c.judge_run.ensures.found

pub returns-in_ok-resolve-in-Both : goal.returns-in_ok-resolve-in-Both
returns-in_ok-resolve-in-Both t c =
    let s : State = state_before c.args.before.now in
    let old : List Found = c.args.report.now.found.items in
    let a : List Step = c.in-Both.a.value.steps in
    let b : List Step = c.in-Both.b.value.steps in
    let parts : a ++ b ≡ c.args.self.now.steps = sym (ap content_steps c.in-Both.is) ∙ same_steps c.self.view_is in
    let len : c.len.result ≡ length a = cc in
    let kept : IsKept c.unwrap-first.result.now a =
    rw (c.unwrap-first.ensures, c.deref-left.ensures) at c.known-in-Both.ensures.kept in
    let ends = known_ends c.unwrap-first.result.now a kept.knows s in
    let first = rw c.deref-left.ensures at c.in_ok-resolve-in-Both.ensures in
    let all = first.found in
    let more = rw (c.deref-effect.ensures, ends, c.deref-right.ensures) at c.resolve-in-Both.ensures in
    rw (← parts) (record {
      found = on_ok_weaker c.resolve-in-Both.result (λ last. rw (
        found_all c.args.asked.now c.args.at c.len.result s a b old len,
        ← all,
      ) last) more.found;
      few = on_ok_weaker c.resolve-in-Both.result (λ last. omega (arith, first.few, last, positions_parts s a b)) more.few;
      all = on_ok_weaker c.resolve-in-Both.result (λ last. omega (arith, first.all, last, length-append a b)) more.all;
      each = on_ok_weaker c.resolve-in-Both.result (λ last. omega (arith, first.each, last)) more.each;
    })
