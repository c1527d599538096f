use Rattle.cap_summary.specs.{values, length, ◌≤◌}
use Rattle.cap_summary.proofs.Walks.{Sees}
use Rattle.cap_summary.proofs.walking.walk_run.Given as goal

abbrev pub invariant-loop-step : goal.invariant-loop-step
invariant-loop-step g l = (length l.rest ≤ length l.run)
    × Sees g.W.Walk.sees l.initial.walk l.walk l.at (values l.rest) (values l.run)

abbrev pub decreases-loop-step : goal.decreases-loop-step
decreases-loop-step g l = length l.rest
