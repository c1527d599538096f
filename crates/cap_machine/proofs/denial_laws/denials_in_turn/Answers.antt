use Rattle.cap_machine.proofs.Turns.{denials_in_turn as the_law, denials_more}
use Rattle.cap_machine.proofs.denial_laws.denials_in_turn.Goals as goal

pub returns-clause-denials : goal.returns-clause-denials
returns-clause-denials c = the_law

pub returns-clause-one : goal.returns-clause-one
returns-clause-one c = denials_more
