use Rattle.std.proofs.Common.{◌≡◌, take}
use Rattle.cap_machine.specs.Steps.{steps}
use Rattle.cap_machine.specs.History.{ended}
use Rattle.cap_machine.specs.State.{start_state}
use Rattle.cap_limits.proofs.limits.machine_after.Given as goal

abbrev pub invariant-loop-line : goal.invariant-loop-line
invariant-loop-line l =
    start_state l.machine ≡ ended (start_state l.start) (steps l.profile (take l.line-index l.lines))
