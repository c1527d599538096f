use Rattle.cap_machine.proofs.LackedRights.{refused_is_denied}
use Rattle.cap_machine.proofs.denial_laws.refused_lines_are_denied.Goals as goal

pub returns : goal.returns
returns c = refused_is_denied
