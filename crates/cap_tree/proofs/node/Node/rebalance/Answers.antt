use Rattle.std.proofs.Common.{arith, rules}
use Rattle.std.proofs.lemmas.Grind.{common_steps}
use Rattle.cap_tree.proofs.Replaced.{ordered}
use Rattle.cap_tree.proofs.node.Node.rebalance.Goals as goal

pub returns-clause-items : goal.returns-clause-items
returns-clause-items g c =
    let order = ordered (λ n. n.value.0) c.args.side _ _ c.args.part c.args.other c.order-left.ensures.part
    c.order-left.ensures.other in
    rw order at c.in_ok-whole.ensures.items

-- The search is written out since a wrong body is refused sooner so (docs/GATE.md).
pub returns-clause-alike : goal.returns-clause-alike
returns-clause-alike g c = search rules

pub rotate-requires-then-far-near-clause-few : goal.rotate-requires-then-far-near-clause-few
rotate-requires-then-far-near-clause-few g c = grind (arith, common_steps)

pub rotate-requires-then-far-near-clause-two_higher : goal.rotate-requires-then-far-near-clause-two_higher
rotate-requires-then-far-near-clause-two_higher g c = grind (arith, common_steps)
