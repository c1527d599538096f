use Rattle.std.proofs.Common.{ap}
use Rattle.cap_tree.proofs.Edited.{edited-beside, beside-nothing, few-beside, long-edited}
use Rattle.cap_tree.proofs.Replaced.{joined-at, have-changed, joins-of-part}
use Rattle.cap_tree.proofs.node.Node.+edited.Goals as goal

pub returns-in-None-changed-clause-items : goal.returns-in-None-changed-clause-items
returns-in-None-changed-clause-items g t c =
    let all = rw c.deref-node.ensures at (ap (λ d. d.0) (rw c.in-Branch.is at c.node.view_is)) in
    let long = rw c.deref.ensures at c.len.ensures.count in
    let gone = rw c.in-None-changed.is at c.in_ok-changed-in-Branch.ensures.items in
    let new = edited-beside (λ n. n.now.value.0) c.of_place-side.result.0 _ _ _ _ c.args.edit _ _ _
    c.order.ensures.part c.order.ensures.other long c.of_place-side.ensures in
    rw (c.in_ok-kept-in-Branch.ensures.cases, ← all, ← new, gone) (beside-nothing _ _)

pub returns-in_ok-new-in-Some-changed-clause-items :
    goal.returns-in_ok-new-in-Some-changed-clause-items
returns-in_ok-new-in-Some-changed-clause-items g t c =
    let all = rw c.deref-node.ensures at (ap (λ d. d.0) (rw c.in-Branch.is at c.node.view_is)) in
    let long = rw c.deref.ensures at c.len.ensures.count in
    let part = rw c.in-Some-changed.is at c.in_ok-changed-in-Branch.ensures.items in
    let new = edited-beside (λ n. n.now.value.0) c.of_place-side.result.0 _ _ _ _ c.args.edit _ _ _
    c.order.ensures.part c.order.ensures.other long c.of_place-side.ensures in
    rw (part, c.in_ok-kept-in-Branch.ensures.cases, new, all) at c.in_ok-new-in-Some-changed.ensures.items

pub rebalance-requires-clause-few : goal.rebalance-requires-clause-few
rebalance-requires-clause-few g t c =
    let all = rw c.deref-node.ensures at (ap (λ d. d.0) (rw c.in-Branch.is at c.node.view_is)) in
    let few = rw (c.in-Branch.is, all) at c.node.invariant.few in
    let long = rw c.deref.ensures at c.len.ensures.count in
    let part = rw c.in-Some-changed.is at c.in_ok-changed-in-Branch.ensures.items in
    let new = edited-beside (λ n. n.now.value.0) c.of_place-side.result.0 _ _ _ _ c.args.edit _ _ _
    c.order.ensures.part c.order.ensures.other long c.of_place-side.ensures in
    rw (part, c.in_ok-kept-in-Branch.ensures.cases)
    (few-beside c.of_place-side.result.0 _ _ c.args.this.now.value.0 c.args.edit c.args.at (rw all at new) few
    c.requires.allowed)

pub rebalance-requires-clause-old : goal.rebalance-requires-clause-old
rebalance-requires-clause-old g t c =
    let whole = ap (λ d. d.2) (rw c.in-Branch.is at c.node.view_is) in
    let composed = rw c.in-Branch.is at c.node.invariant.composed in
    let old = joined-at g.S.Segment.composes (λ n. n.now.value.2) c.of_place-side.result.0 _ _ _ _ _
    c.order.ensures.part c.order.ensures.other composed in
    rw (c.deref-in-Some-changed.ensures, c.in_ok-kept-in-Branch.ensures.cases, ← whole) old

pub rebalance-requires-clause-changed : goal.rebalance-requires-clause-changed
rebalance-requires-clause-changed g t c =
    let whole = ap (λ d. d.1) (rw c.in-Branch.is at c.node.view_is) in
    let balanced = rw c.in-Branch.is at c.node.invariant.balanced in
    let near = rw c.in-Some-changed.is at c.in_ok-changed-in-Branch.ensures.height in
    let changed = have-changed (λ n. n.now.value.1) c.of_place-side.result.0 _ _ _ _ _ _
    c.order.ensures.part c.order.ensures.other balanced.0 balanced.1 near in
    rw (c.deref-in-Some-changed.ensures, c.in_ok-kept-in-Branch.ensures.cases, ← whole) changed

pub returns-in_ok-new-in-Some-changed-clause-joins : goal.returns-in_ok-new-in-Some-changed-clause-joins
returns-in_ok-new-in-Some-changed-clause-joins g t c =
    let all = rw c.deref-node.ensures at (ap (λ d. d.0) (rw c.in-Branch.is at c.node.view_is)) in
    let whole = rw c.deref-node.ensures at (ap (λ d. d.1) (rw c.in-Branch.is at c.node.view_is)) in
    let balanced = rw c.in-Branch.is at c.node.invariant.balanced in
    let joins = joins-of-part (λ n. n.now.value.0) (λ n. n.now.value.1) c.of_place-side.result.0 _ _ _ _ _ _ _ _
    c.order.ensures.part balanced.0 c.edited.ensures.joins c.rebalance.ensures.joins in
    rw (← all, ← whole) joins

pub returns-in-None-changed-clause-long : goal.returns-in-None-changed-clause-long
returns-in-None-changed-clause-long g t c = λ above.
    let all = rw c.deref-node.ensures at (ap (λ d. d.0) c.node.view_is) in
    let high = rw c.deref-node.ensures at (ap (λ d. d.1) c.node.view_is) in
    let long = rw all at (c.node.invariant.exceeds_leaf (rw high above)) in
    rw (returns-in-None-changed-clause-items g t c) (long-edited c.args.edit _ c.args.at long c.requires.allowed)

pub returns-in_ok-new-in-Some-changed-clause-long : goal.returns-in_ok-new-in-Some-changed-clause-long
returns-in_ok-new-in-Some-changed-clause-long g t c = λ above.
    let all = rw c.deref-node.ensures at (ap (λ d. d.0) c.node.view_is) in
    let high = rw c.deref-node.ensures at (ap (λ d. d.1) c.node.view_is) in
    let long = rw all at (c.node.invariant.exceeds_leaf (rw high above)) in
    rw (returns-in_ok-new-in-Some-changed-clause-items g t c)
    (long-edited c.args.edit _ c.args.at long c.requires.allowed)

pub rebalance-requires-clause-long : goal.rebalance-requires-clause-long
rebalance-requires-clause-long g t c =
    rw c.deref-in-Some-changed.ensures (rw c.in-Some-changed.is at c.in_ok-changed-in-Branch.ensures.long)
