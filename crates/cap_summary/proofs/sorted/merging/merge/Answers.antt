use Rattle.cap_summary.specs.{Sorted.found, ◌+◌, ◌≤◌}
use Rattle.cap_summary.proofs.sorted.merging.merge.Goals.{In-Some, In_ok-made}
use Rattle.cap_summary.proofs.SortedMerging.{Rises-from, bound_le, left_out, merged_all, put_last}
use Rattle.cap_summary.proofs.sorted.merging.merge.Goals as goal

pub first_key-requires-clause-left : goal.first_key-requires-clause-left
first_key-requires-clause-left g c =
    Rises-from c.loop-key.invariant.0 c.loop-key.lefts.now c.loop-key.invariant.1.left_rises

pub first_key-requires-clause-right : goal.first_key-requires-clause-right
first_key-requires-clause-right g c =
    Rises-from c.loop-key.invariant.0 c.loop-key.rights.now c.loop-key.invariant.1.right_rises

-- the key isn't below what was merged
past : (g : _) (c : In-Some g) → c.loop-key.invariant.0 ≤ c.in-Some.key
past g c = bound_le c.loop-key.lefts.now c.loop-key.rights.now c.loop-key.invariant.0 c.in-Some.key
    c.loop-key.invariant.1.left_rises c.loop-key.invariant.1.right_rises c.in-Some.ensures.one

-- what is given for the key
given_here : (g : _) (c : In_ok-made g) → g.M.Combine.gives c.args.step.now c.in-Some.key
    (found c.loop-key.lefts.now c.in-Some.key) (found c.loop-key.rights.now c.in-Some.key) c.in_ok-made.made
given_here g c = rw (← c.split_key.ensures.value, ← c.split_key-in-Some.ensures.value) c.in_ok-made.ensures

pub loop-key-preserved-in_ok-push : goal.loop-key-preserved-in_ok-push
loop-key-preserved-in_ok-push g c =
    let here = goal.at.loop-key-preserved-in_ok-push g c in (
      c.in-Some.key + 1,
      rw c.in_ok-push.ensures.items (put_last c.loop-key.invariant.1 (g.met.M.Combine.neither
          c.args.step.now) c.in-Some.key (past g here.In-Some) c.in-Some.ensures.left c.in-Some.ensures.right
          c.split_key.ensures.rising c.split_key-in-Some.ensures.rising c.split_key.ensures.above
          c.split_key-in-Some.ensures.above c.in-Some-made.value (rw c.in-Some-made.is at (given_here g here.In_ok-made))),
    )

pub loop-key-preserved : goal.loop-key-preserved
loop-key-preserved g c =
    let here = goal.at.loop-key-preserved g c in (
      c.in-Some.key + 1,
      left_out c.loop-key.invariant.1 (g.met.M.Combine.neither c.args.step.now) c.in-Some.key
          (past g here.In-Some) c.in-Some.ensures.left c.in-Some.ensures.right c.split_key.ensures.rising
          c.split_key-in-Some.ensures.rising c.split_key.ensures.above c.split_key-in-Some.ensures.above
          (rw c.in_default-made.is at (given_here g here.In_ok-made)),
    )

-- no key is left
pub returns : goal.returns
returns g c = rw c.from_sorted.ensures (merged_all c.loop-key.invariant.1 (g.met.M.Combine.neither c.args.step.now)
    c.in_default.ensures.end.0 c.in_default.ensures.end.1)
