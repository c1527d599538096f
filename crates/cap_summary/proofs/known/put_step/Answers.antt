use Rattle.cap_summary.specs.{Entry, Names.names_in, [], ◌++◌, ◌∷◌, ◌≡◌}
use Rattle.cap_summary.proofs.{Knowing.says_more, Naming.line_in, Naming.requirement_in, ap}
use Rattle.cap_summary.proofs.known.put_step.Goals as goal

pub returns-clause-pid : goal.returns-clause-pid
returns-clause-pid c = ap (λ (e : Entry). e.pid) (rw c.view-line.ensures at c.line.view_is)

pub returns-clause-says : goal.returns-clause-says
returns-clause-says c = λ steps so_far.
    let rule = c.rule_of-rule.ensures in
    let view = c.view-line.ensures in
    let pid : c.line.inside.pid ≡ c.args.step.now.line.pid = ap (λ (e : Entry). e.pid) (rw view at c.line.view_is) in
    let requirement = rw view at rule.requirement in
    says_more c.args.step.now c.rule_of-rule.result.effect c.line.inside.pid
    (λ p f. rw pid (rw view at (rule.cells p f)))
    (λ p. rw pid (rw view at (rule.modes p))) c.args.effect.now c.push.new.self c.args.precondition.now
    c.put_line.new.self c.of_line-asks.result steps so_far
    c.in_ok-push.ensures.cells c.in_ok-push.ensures.leaves c.in_ok-put_line.ensures
    (λ s. rw (pid, requirement) at (c.of_line-asks.ensures.holds s))
    (rw (pid, requirement) at c.of_line-asks.ensures.same) c.in_ok-push.ensures.names
    (rw pid (line_in c.args.step.now steps c.rule_of-rule.result.effect
    (λ p f. rw view at (rule.cells p f)))) (c.of_line-asks.ensures.names (names_in (steps ++ c.args.step.now ∷ []))
    (rw (pid, requirement) (requirement_in c.args.step.now steps))) (rw requirement at c.of_line-asks.ensures.refusals)
