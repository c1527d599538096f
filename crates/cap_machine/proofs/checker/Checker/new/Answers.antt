use Rattle.cap_machine.specs.State.{usual}
use Rattle.cap_machine.proofs.checker.Checker.new.Goals as goal

pub returns : goal.returns
returns c = c.over.ensures usual c.unknown.ensures
