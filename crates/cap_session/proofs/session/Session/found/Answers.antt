use Rattle.cap_session.specs.Session.{IsLast}
use Rattle.cap_session.proofs.session.Session.found.Goals as goal

pub resolve_again-requires-clause-kept : goal.resolve_again-requires-clause-kept
resolve_again-requires-clause-kept c =
    let last : IsLast c.self.inside.setting c.self.inside.tree c.in-Some-last.last =
    rw c.in-Some-last.is at c.self.invariant.report in
    rw (c.summary-in-Some-last.ensures.steps, c.summary-in-Some-last-2.ensures.steps)
    (c.runs.ensures c.in-Some-last.last.tree c.self.inside.tree last.stood)
