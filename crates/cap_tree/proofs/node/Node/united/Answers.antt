use Rattle.std.proofs.Common.{rules}
use Rattle.cap_tree.proofs.node.Node.united.Goals as goal

-- The search is written out since a wrong body is refused sooner so (docs/GATE.md).
pub branch-alloc-requires-clause-apart : goal.branch-alloc-requires-clause-apart
branch-alloc-requires-clause-apart g c = search rules
