use Rattle.cap_tree.proofs.Runs.{values-append_clones}
use Rattle.cap_summary.specs.{values, ◌≡◌}
use Rattle.cap_summary.proofs.node.Node.of_run.Goals.{In_ok-extend_from_slice}
use Rattle.cap_summary.proofs.node.Node.of_run.Goals as goal

same : (c : In_ok-extend_from_slice) → values c.extend_from_slice.new.self.items ≡ values c.args.steps.now
same c = rw c.in_ok-run.ensures.items at (values-append_clones _ _ _ (c.in_ok-extend_from_slice.ensures.items))

pub of-requires-clause-knows : goal.of-requires-clause-knows
of-requires-clause-knows c = rw (same (goal.at.of-requires-clause-knows c).In_ok-extend_from_slice) c.in_ok-known.ensures.says

pub of-requires-clause-processes : goal.of-requires-clause-processes
of-requires-clause-processes c =
    rw (same (goal.at.of-requires-clause-processes c).In_ok-extend_from_slice) c.in_ok-known.ensures.pids

pub returns : goal.returns
returns c = rw (same (goal.at.returns c).In_ok-extend_from_slice) at c.of.ensures.stands
