use Rattle.cap_summary.proofs.{rules, Keeping.many}
use Rattle.cap_summary.proofs.node.Node.known_of_both.Goals as goal

pub returns-in_default-clause-many : goal.returns-in_default-clause-many
returns-in_default-clause-many c = search (rules, many)
