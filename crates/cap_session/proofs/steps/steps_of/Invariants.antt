use Rattle.std.proofs.Common.{◌≡◌}
use Rattle.cap_machine.specs.Steps.{steps}
use Rattle.cap_tree.specs.Run.{values}
use Rattle.cap_session.proofs.steps.steps_of.Given as goal

abbrev pub invariant-loop-line : goal.invariant-loop-line
invariant-loop-line l = values l.shared.items ≡ steps l.fn.profile l.yielded
