use Rattle.std.proofs.Common.{◌≡◌, ◌/◌, ◌^◌, ◌<◌, ◌≤◌, max, length, arith, length-append, rules}
use Rattle.cap_tree.specs.declared.node.TheConstants.{LEAF_ITEMS}
use Rattle.cap_tree.proofs.Wide.{pow-above, exceeds-leaf}
use Rattle.cap_tree.proofs.node.Node.over.Goals as goal

pub invariant_of-node : goal.invariant_of-node
invariant_of-node g c =
    let left = c.args.left.value in
    let right = c.args.right.value in
    let long = length-append left.0 right.0 in
    let height : c.max-height.result ≡ max left.1 right.1 = search rules in
    let left_lower : left.1 < length left.0 = search rules in
    let right_lower : right.1 < length right.0 = search rules in
    let left_wide : 2 ^ (left.1 / 2) ≤ length left.0 = search rules in
    let right_wide : 2 ^ (right.1 / 2) ≤ length right.0 = search rules in
    let wide = pow-above left.1 right.1 (length left.0) (length right.0) c.requires.balanced left_wide right_wide in
    let left_exceeds : 0 < left.1 → LEAF_ITEMS < length left.0 = search rules in
    let right_exceeds : 0 < right.1 → LEAF_ITEMS < length right.0 = search rules in
    let exceeds = exceeds-leaf left.1 right.1 (length left.0) (length right.0) left_exceeds right_exceeds c.requires.apart in
    record {
      sums_up = c.requires.stands;
      composed = c.requires.composed;
      balanced = omega arith;
      fits = tt;
      exceeds_leaf = λ above. rw long exceeds;
      lower = omega arith;
      wide = rw (height, long) wide;
      few = omega arith;
    }
