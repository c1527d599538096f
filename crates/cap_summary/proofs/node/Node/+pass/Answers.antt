use Rattle.std.specs.Prelude.{List, length, refl, ◌<◌, ◌++◌, ◌+◌, ◌≡◌}
use Rattle.cap_summary.proofs.{Judged.positions_parts, Judged.run_judged, Runs.same_steps, ap, arith, length-append}
use Rattle.cap_summary.proofs.Agreeing.{agree_same, judged_both, none_judged, noted_parts, same_check}
use Rattle.cap_summary.proofs.{on_ok_weaker, sym, ◌∙◌}
use Rattle.std.proofs.Common.{rules}
use Rattle.cap_summary.specs.{Kept.content_steps, State, Step, check, ended}
use Rattle.cap_summary.specs.{Composing.NodeView, Kept.AreKept, Positions.positions, declared.judging.Report.Report}
use Rattle.cap_summary.specs.{start_state, values, ℕ, ◌≤◌}
use Rattle.cap_summary.proofs.{Agreeing.passed, Keeping.where_known, cases_lt, inl, inr, length-map}
use Rattle.cap_summary.proofs.node.Node.+pass.Goals as goal

pub pass-requires : goal.pass-requires
pass-requires t c =
    let a : List Step = c.in-Both.a.value.steps in
    let b : List Step = c.in-Both.b.value.steps in
    let parts : a ++ b ≡ c.args.self.now.steps = sym (ap content_steps c.in-Both.is) ∙ same_steps c.self.view_is in
    let size : length a + length b ≡ length c.args.self.now.steps = sym (length-append a b) ∙ ap (λ r. length r) parts in
    let noted = (noted_parts c.args.last.now c.args.at (length a) a b refl (rw parts c.requires.noted)).0 in
    rw c.deref-left.ensures (search rules, (omega arith, (omega arith, noted)))

pub pass-requires-in-Both : goal.pass-requires-in-Both
pass-requires-in-Both t c =
    let a : List Step = c.in-Both.a.value.steps in
    let b : List Step = c.in-Both.b.value.steps in
    let parts : a ++ b ≡ c.args.self.now.steps = sym (ap content_steps c.in-Both.is) ∙ same_steps c.self.view_is in
    let size : length a + length b ≡ length c.args.self.now.steps = sym (length-append a b) ∙ ap (λ r. length r) parts in
    let len : c.len-in-Both.result ≡ length a = cc in
    let noted = (noted_parts c.args.last.now c.args.at c.len-in-Both.result a b len (rw parts c.requires.noted)).1 in
    let judged = rw c.deref-left.ensures at c.in_ok-pass-in-Both.ensures.all in
    rw c.deref-right.ensures (search rules, (omega arith, (omega arith, noted)))

pub returns-then-asked-at-clause-judged : goal.returns-then-asked-at-clause-judged
returns-then-asked-at-clause-judged t c = λ s agree. none_judged c.args.last.now c.args.asked.now c.args.at
    c.args.self.now.steps s (start_state c.args.machine.now) c.args.report.now.found.items (omega arith)

pub returns-then-asked-end-clause-judged : goal.returns-then-asked-end-clause-judged
returns-then-asked-end-clause-judged t c = λ s agree.
    let r : State = start_state c.args.machine.now in
    let steps : List Step = c.args.self.now.steps in
    let len : c.self.inside.len ≡ length steps =
    c.self.invariant.len ∙ ap (λ (l : List Step). length l) (same_steps c.self.view_is) in
    passed c.args.last.now c.args.asked.now c.args.at c.self.inside.len steps s r r c.args.report.now.found.items len
    c.requires.noted agree (c.may_find.ensures.none c.if-not-may_find.true)
    (λ more. absurd (omega (arith, more, c.if-asked-end.true)))

pub returns-then-not-may_find-clause-judged : goal.returns-then-not-may_find-clause-judged
returns-then-not-may_find-clause-judged t c = λ s agree.
    let r : State = start_state c.args.machine.now in
    let steps : List Step = c.args.self.now.steps in
    let len : c.self.inside.len ≡ length steps =
    c.self.invariant.len ∙ ap (λ (l : List Step). length l) (same_steps c.self.view_is) in
    on_ok_weaker c.take.result (λ taken. passed c.args.last.now c.args.asked.now c.args.at c.self.inside.len steps s r
    (start_state c.take.new.machine) c.args.report.now.found.items len c.requires.noted agree
    (c.may_find.ensures.none c.if-not-may_find.true) (λ more. rw (c.in-Some.ensures.moves r) at taken)) c.take.ensures

pub returns-then-not-may_find-2-clause-judged : goal.returns-then-not-may_find-2-clause-judged
returns-then-not-may_find-2-clause-judged t c = λ s agree.
    let r : State = start_state c.args.machine.now in
    let steps : List Step = c.args.self.now.steps in
    let n : ℕ = length c.deref.result.now in
    let run : values c.deref.result.now ≡ steps =
    ap values c.deref.ensures.value ∙ sym (ap content_steps c.in-Run.is) ∙ same_steps c.self.view_is in
    let len : n ≡ length steps =
    sym (length-map c.deref.result.now (λ item. item.value)) ∙ ap (λ (l : List Step). length l) run in
    on_ok_weaker c.pass_in_order.result (λ done. passed c.args.last.now c.args.asked.now c.args.at n steps s r
    (start_state c.pass_in_order.new.machine) c.args.report.now.found.items len c.requires.noted agree
    (c.may_find-in-Run.ensures.none c.if-not-may_find-2.true) (λ more. rw run at done))
    (c.pass_in_order.ensures r (agree_same c.args.last.now c.args.at r))

pub returns-else-not-may_find-2-clause-few : goal.returns-else-not-may_find-2-clause-few
returns-else-not-may_find-2-clause-few t c = λ known s agree.
    let r : State = start_state c.args.machine.now in
    let steps : List Step = c.args.self.now.steps in
    let some : 0 < positions (check r steps) = c.may_find-in-Run.ensures.some c.if-not-may_find-2.false known in
    let same : positions (check s steps) ≡ positions (check r steps) =
    ap positions (same_check c.args.last.now c.args.at steps s r c.requires.noted agree) in
    let short : length c.in-Run.run'.items ≤ 48 = rw c.in-Run.is at c.self.invariant.parts in
    let len : length c.deref-in-Run.result.now ≡ length c.in-Run.run'.items =
    ap (λ l. length l) c.deref-in-Run.ensures.value in
    on_ok_weaker c.judge_in_order.result (λ done. omega (arith, some, same, short, len))
    (c.judge_in_order.ensures r (agree_same c.args.last.now c.args.at r))

pub returns-else-not-may_find-2-clause-each : goal.returns-else-not-may_find-2-clause-each
returns-else-not-may_find-2-clause-each t c =
    let new : Report =
    record { found = c.judge_in_order.new.found; judged = c.args.report.now.judged + c.len.result } in
    let here : State = start_state c.args.machine.now in
    on_ok_weaker c.judge_in_order.result (λ done. run_judged c.args.report.now new c.args.asked.now c.args.at here
    c.deref-in-Run.result.now done.found (omega arith))
    (c.judge_in_order.ensures here (agree_same c.args.last.now c.args.at here))

pub returns-in_ok-pass-in-Both-clause-judged : goal.returns-in_ok-pass-in-Both-clause-judged
returns-in_ok-pass-in-Both-clause-judged t c = λ s agree.
    let a : List Step = c.in-Both.a.value.steps in
    let b : List Step = c.in-Both.b.value.steps in
    let parts : a ++ b ≡ c.args.self.now.steps = sym (ap content_steps c.in-Both.is) ∙ same_steps c.self.view_is in
    let len : c.len-in-Both.result ≡ length a = cc in
    let first = rw c.deref-left.ensures at c.in_ok-pass-in-Both.ensures in
    let second = rw c.deref-right.ensures at c.pass-in-Both.ensures in
    rw (← parts) (judged_both c.pass-in-Both.result c.args.last.now c.args.asked.now c.args.at
    c.len-in-Both.result a b s _ _ _ _ _ len (first.judged s agree) second.judged)

pub returns-in_ok-pass-in-Both-clause-few : goal.returns-in_ok-pass-in-Both-clause-few
returns-in_ok-pass-in-Both-clause-few t c = λ known s agree.
    let a : List Step = c.in-Both.a.value.steps in
    let b : List Step = c.in-Both.b.value.steps in
    let parts : a ++ b ≡ c.args.self.now.steps = sym (ap content_steps c.in-Both.is) ∙ same_steps c.self.view_is in
    let len : c.len-in-Both.result ≡ length a = cc in
    let first = rw c.deref-left.ensures at c.in_ok-pass-in-Both.ensures in
    let second = rw c.deref-right.ensures at c.pass-in-Both.ensures in
    let is : c.self.inside.known ≡ c.args.self.now.known = ap (λ (n : NodeView). n.known) c.self.view_is in
    let below : AreKept c.in-Both.a.value c.in-Both.b.value = where_known c.self.inside.known (AreKept c.in-Both.a.value c.in-Both.b.value)
    (rw is known) (rw c.in-Both.is at c.self.invariant.below) in
    let here = first.few below.0 s agree in
    rw (← parts, positions_parts s a b) (elim (cases_lt (c.args.at + c.len-in-Both.result) c.args.asked.now.to) [
      | inl before ↦ on_ok_weaker c.pass-in-Both.result (λ last. omega (arith, here, last)) (second.few below.1 (ended s a)
          (rw len ((first.judged s agree).agree (omega (arith, len, before)))))
      | inr beyond ↦ on_ok_weaker c.pass-in-Both.result (λ last. omega (arith, here, last)) (second.beyond beyond)
    ])
