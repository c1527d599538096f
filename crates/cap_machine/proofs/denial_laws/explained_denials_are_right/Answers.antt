use Rattle.cap_machine.proofs.RightDenials.{the_lacking, the_inside}
use Rattle.cap_machine.proofs.denial_laws.explained_denials_are_right.Goals as goal

pub returns-clause-rights : goal.returns-clause-rights
returns-clause-rights c = the_lacking

pub returns-clause-mode : goal.returns-clause-mode
returns-clause-mode c = the_inside
