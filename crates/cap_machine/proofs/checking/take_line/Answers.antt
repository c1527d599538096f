-- The search is written out since a wrong body is refused sooner so (docs/GATE.md).
use Rattle.std.proofs.Common.{rules}
use Rattle.cap_machine.proofs.checking.take_line.Goals as goal

pub returns-clause-moved : goal.returns-clause-moved
returns-clause-moved c = search rules
