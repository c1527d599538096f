use Rattle.std.proofs.Common.{◌≡◌, refl, rules}
use Rattle.cap_tree.specs.Sides.{beside}
use Rattle.cap_tree.proofs.Edited.{beside-beside, beside-four}
use Rattle.cap_tree.proofs.node.Node.rotate.Goals as goal

pub returns-clause-items : goal.returns-clause-items
returns-clause-items g c =
    let side = c.args.side in
    let high = c.args.high.now.0 in
    let low = c.args.low.value.0 in
    let near = c.in_ok-near.near.value.0 in
    let far = c.in_ok-near.far.value.0 in
    let inner = rw c.deref-middle.ensures at c.in_ok-near.ensures.items in
    let parts = beside-four side c.in_ok-outer.outer.value.0 near far low in
    let all : beside side c.in_ok-front.front.value.0 c.in_ok-back.back.value.0 ≡ beside side high low =
    rw (c.in_ok-front.ensures.items, c.in_ok-back.ensures.items, parts, inner, c.in_ok-outer.ensures.items) refl in
    search rules

pub returns-then-height-clause-items : goal.returns-then-height-clause-items
returns-then-height-clause-items g c =
    let side = c.args.side in
    let low = c.args.low.value.0 in
    let parts = beside-beside side c.in_ok-outer.outer.value.0 c.in_ok-outer.inner.value.0 low in
    let all : beside side c.in_ok-outer.outer.value.0 c.in_ok-lower.lower.value.0 ≡ beside side c.args.high.now.0 low =
    rw (c.in_ok-lower.ensures.items, parts, c.in_ok-outer.ensures.items) refl in
    search rules
