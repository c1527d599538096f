use Rattle.cap_summary.specs.{length}
use Rattle.cap_summary.proofs.node.Node.+of_steps.Given as goal

abbrev pub decreases-of_steps : goal.decreases-of_steps
decreases-of_steps l = length l.steps.now
