use Rattle.std.specs.Prelude.{◌+◌, ℕ, length}
use Rattle.cap_summary.proofs.{SortedMerging.IsMergedTo}
use Rattle.cap_summary.proofs.sorted.merging.merge.Given as goal

abbrev pub invariant-loop-key : goal.invariant-loop-key
invariant-loop-key g l =
    (bound : ℕ) × IsMergedTo (g.M.Combine.gives l.step) l.left l.lefts l.right l.rights l.merged.items bound

abbrev pub decreases-loop-key : goal.decreases-loop-key
decreases-loop-key g l = length l.lefts + length l.rights
