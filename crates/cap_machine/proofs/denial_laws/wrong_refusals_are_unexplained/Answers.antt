use Rattle.cap_machine.proofs.RightDenials.{the_wrong}
use Rattle.cap_machine.proofs.denial_laws.wrong_refusals_are_unexplained.Goals as goal

pub returns : goal.returns
returns c = the_wrong
