use Rattle.cap_machine.proofs.Turns.{ends_in_turn, checks_in_turn, checks_more}
use Rattle.cap_machine.proofs.laws.traces_in_turn.Goals as goal

pub returns-clause-ends : goal.returns-clause-ends
returns-clause-ends c = ends_in_turn

pub returns-clause-checks : goal.returns-clause-checks
returns-clause-checks c = checks_in_turn

pub returns-clause-one : goal.returns-clause-one
returns-clause-one c = checks_more
