use Rattle.std.proofs.Common.{ℕ, reverse, length}
use Rattle.cap_machine.specs.Steps.{steps}
use Rattle.cap_machine.specs.State.{start_state}
use Rattle.cap_limits.specs.Code.Singles.{has_fd}
use Rattle.cap_limits.proofs.StandingBack.{SoFar}
use Rattle.cap_limits.proofs.standing.standing_fds.Given as goal

abbrev pub invariant-loop-line : goal.invariant-loop-line
invariant-loop-line l = (f : ℕ)
    → SoFar (start_state l.start) l.start (reverse (steps l.profile l.fn.lines)) l.pid
    (reverse (steps l.profile l.rest)) l.own (has_fd l.fds) f

abbrev pub decreases-loop-line : goal.decreases-loop-line
decreases-loop-line l = length l.rest
