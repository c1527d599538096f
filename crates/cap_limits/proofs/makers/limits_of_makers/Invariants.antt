use Rattle.std.proofs.Common.{◌≡◌, List, ◌+◌, ◌++◌, length}
use Rattle.cap_machine.specs.declared.step.Step.{Step}
use Rattle.cap_machine.specs.Steps.{steps}
use Rattle.cap_machine.specs.History.{ended}
use Rattle.cap_machine.specs.State.{start_state}
use Rattle.cap_limits.specs.Code.LiveRights.{AreLive}
use Rattle.cap_limits.specs.Makers.{AreMakerRows}
use Rattle.cap_limits.specs.Code.Made.{cells_along}
use Rattle.cap_limits.proofs.makers.limits_of_makers.Given as goal

abbrev pub invariant-loop-line : goal.invariant-loop-line
invariant-loop-line l = (later : List Step) × (steps l.profile l.rest ++ later ≡ steps l.profile l.fn.lines)
    × (l.cells.items ≡ cells_along (start_state l.start) (steps l.profile l.rest))
    × AreLive l.live later
    × AreMakerRows (ended (start_state l.start) (steps l.profile l.rest)) (length l.rest + 1) later l.rows.items

abbrev pub decreases-loop-line : goal.decreases-loop-line
decreases-loop-line l = length l.rest
