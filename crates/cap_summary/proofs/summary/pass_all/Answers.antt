use Rattle.cap_summary.proofs.{Agreeing.agree_same, Resolving.from_first, arith, on_ok_weaker, subst, sym, ◌∙◌}
use Rattle.cap_summary.specs.{Positions.AgreeAfter, State, start_state, ◌≡◌}
use Rattle.cap_summary.proofs.summary.pass_all.Goals as goal

pub returns-clause-found : goal.returns-clause-found
returns-clause-found c =
    let s : State = start_state c.args.start.now in
    let began : start_state c.in-Ok.machine ≡ s = c.in-Ok.ensures in
    on_ok_weaker c.pass-passed.result
    (λ done. (rw c.requires.nothing at done).found ∙ from_first c.args.asked.now s c.args.node.now.steps)
    (c.pass-passed.ensures.judged s (subst (λ (r : State). AgreeAfter c.note_last.new.last 0 s r) (sym began)
    (agree_same c.note_last.new.last 0 s)))

pub returns-clause-few : goal.returns-clause-few
returns-clause-few c = λ known.
    let s : State = start_state c.args.start.now in
    let began : start_state c.in-Ok.machine ≡ s = c.in-Ok.ensures in
    on_ok_weaker c.pass-passed.result (λ done. omega (arith, rw c.requires.none_judged at done))
    (c.pass-passed.ensures.few known s (subst (λ (r : State). AgreeAfter c.note_last.new.last 0 s r) (sym began)
    (agree_same c.note_last.new.last 0 s)))
