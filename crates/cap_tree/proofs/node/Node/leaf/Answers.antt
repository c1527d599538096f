use Rattle.std.proofs.Common.{refl, rules, arith}
use Rattle.std.proofs.lemmas.Grind.{common_steps}
use Rattle.cap_tree.proofs.node.Node.leaf.Goals as goal

-- The search is written out since a wrong body is refused sooner so (docs/GATE.md).
pub invariant_of-node : goal.invariant_of-node
invariant_of-node g c = record {
  sums_up = search rules;
  composed = tt;
  balanced = refl;
  fits = search rules;
  exceeds_leaf = search rules;
  lower = grind (arith, common_steps);
  wide = grind (arith, common_steps);
  few = grind (arith, common_steps);
}
