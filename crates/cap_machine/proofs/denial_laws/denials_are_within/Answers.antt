use Rattle.cap_machine.proofs.Positions.{denials_within}
use Rattle.cap_machine.proofs.denial_laws.denials_are_within.Goals as goal

pub returns : goal.returns
returns c = denials_within
