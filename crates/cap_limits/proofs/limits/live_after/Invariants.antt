use Rattle.std.proofs.Common.{◌≡◌, List, ◌+◌, ◌++◌, ◌≤◌, length}
use Rattle.cap_machine.specs.declared.step.Step.{Step}
use Rattle.cap_machine.specs.Steps.{steps}
use Rattle.cap_limits.specs.Code.LiveRights.{AreLive, AreBlocked}
use Rattle.cap_limits.proofs.limits.live_after.Given as goal

abbrev pub invariant-loop-line : goal.invariant-loop-line
invariant-loop-line l = (later : List Step) × (steps l.profile l.rest ++ later ≡ steps l.profile l.fn.lines)
    × (length l.rest ≤ length l.fn.lines)
    × AreLive l.live later
    × AreBlocked l.live (l.before + length l.rest + 1) later

abbrev pub decreases-loop-line : goal.decreases-loop-line
decreases-loop-line l = length l.rest
