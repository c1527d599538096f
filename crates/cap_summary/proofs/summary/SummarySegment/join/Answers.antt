use Rattle.cap_summary.proofs.{rules}
use Rattle.cap_summary.proofs.summary.SummarySegment.join.Goals as goal

pub returns-clause-joined : goal.returns-clause-joined
returns-clause-joined c = search rules

pub returns-clause-composed : goal.returns-clause-composed
returns-clause-composed c = search rules

pub returns-clause-counted : goal.returns-clause-counted
returns-clause-counted c = search rules
