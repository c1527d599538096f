use Rattle.cap_machine.proofs.ModeMatters.{said_in_any_mode, said_by_mode}
use Rattle.cap_machine.proofs.provenance_laws.mode_matters_where_it_decides.Goals as goal

pub returns-clause-same : goal.returns-clause-same
returns-clause-same c = said_in_any_mode

pub returns-clause-differs : goal.returns-clause-differs
returns-clause-differs c = said_by_mode
