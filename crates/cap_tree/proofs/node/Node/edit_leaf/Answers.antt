use Rattle.std.proofs.Common.{rules, arith}
use Rattle.std.proofs.lemmas.Grind.{common_steps}
use Rattle.cap_tree.proofs.node.Node.edit_leaf.Goals as goal
use Rattle.cap_tree.proofs.node.Node.edit_leaf.Goals.{in-Insert+in_ok-new-in-Insert}
use Rattle.cap_tree.proofs.node.Node.edit_leaf.Goals.{in_default-edit+in_ok-run-in_default-edit+else-is_empty+in_ok-new-in_default-edit}

pub returns-clause-items : goal.returns-clause-items
returns-clause-items g c = elim c.match-edit.branch [
  | in-Insert+in_ok-new-in-Insert w ↦ grind (arith, common_steps)
  | in_default-edit+in_ok-run-in_default-edit+else-is_empty+in_ok-new-in_default-edit w ↦ search rules
]
