use Rattle.cap_limits.proofs.LimitLeast.{limits_are_least as the_law}
use Rattle.cap_limits.proofs.LimitScripts.{scripts_are_least}
use Rattle.cap_limits.proofs.limit_laws.limits_are_least.Goals as goal

pub returns-clause-state : goal.returns-clause-state
returns-clause-state c = the_law

pub returns-clause-script : goal.returns-clause-script
returns-clause-script c = scripts_are_least
