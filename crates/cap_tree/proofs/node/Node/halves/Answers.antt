use Rattle.std.proofs.Common.{arith}
use Rattle.std.proofs.lemmas.List.{length-map}
use Rattle.cap_tree.proofs.Halves.{values-halves}
use Rattle.cap_tree.proofs.Levels.{leaf_height}
use Rattle.cap_tree.proofs.node.Node.halves.Goals as goal

pub returns-clause-items : goal.returns-clause-items
returns-clause-items g c =
    let whole =
    values-halves c.split_at.result.0.now c.split_at.result.1.now c.args.run.now c.split_at.ensures.by_index.0 in
    rw (c.in_ok-left.ensures.items, c.in_ok-right.ensures.items) whole

pub returns-clause-front : goal.returns-clause-front
returns-clause-front g c =
    let long = length-map c.split_at.result.0.now (λ item. item.value) in
    (leaf_height _ _ c.in_ok-left.ensures.height (omega arith), rw c.in_ok-left.ensures.items (omega arith))

pub returns-clause-back : goal.returns-clause-back
returns-clause-back g c =
    let long = length-map c.split_at.result.1.now (λ item. item.value) in
    (leaf_height _ _ c.in_ok-right.ensures.height (omega arith), rw c.in_ok-right.ensures.items (omega arith))
