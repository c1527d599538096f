use Rattle.std.proofs.Common.{arith}
use Rattle.std.proofs.lemmas.Grind.{elements}
use Rattle.cap_tree.proofs.tree.Tree.get.Goals as goal

-- The search is written out since a wrong body is refused sooner so (docs/GATE.md).
pub returns : goal.returns
returns g c = grind (arith, elements)
