use Rattle.cap_machine.proofs.Positions.{positions_within}
use Rattle.cap_machine.proofs.laws.positions_are_within.Goals as goal

pub returns : goal.returns
returns c = positions_within
