use Rattle.cap_machine.proofs.Quiet.{no_alarm_lost as the_law}
use Rattle.cap_machine.proofs.laws.no_alarm_lost.Goals as goal

pub returns : goal.returns
returns c = the_law
