use Rattle.cap_machine.proofs.LackedRights.{lacking_is_some, lacking_is_enough}
use Rattle.cap_machine.proofs.denial_laws.lacking_rights_are_what_to_add.Goals as goal

pub returns-clause-some : goal.returns-clause-some
returns-clause-some c = lacking_is_some

pub returns-clause-enough : goal.returns-clause-enough
returns-clause-enough c = lacking_is_enough
