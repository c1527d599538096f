use Rattle.cap_limits.proofs.LimitEnter.{blocked_is_forbidden as the_law}
use Rattle.cap_limits.proofs.LimitScripts.{entering_is_forbidden}
use Rattle.cap_limits.proofs.limit_laws.blocked_is_forbidden.Goals as goal

pub returns-clause-state : goal.returns-clause-state
returns-clause-state c = the_law

pub returns-clause-script : goal.returns-clause-script
returns-clause-script c = entering_is_forbidden
