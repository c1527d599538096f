use Rattle.cap_machine.proofs.NamedFds.{named_effects, named_checks}
use Rattle.cap_machine.proofs.laws.rules_name_what_stands_there.Goals as goal

pub returns-clause-effects : goal.returns-clause-effects
returns-clause-effects c = named_effects

pub returns-clause-checks : goal.returns-clause-checks
returns-clause-checks c = named_checks
