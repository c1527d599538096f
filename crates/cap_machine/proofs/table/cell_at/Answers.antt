-- The search is written out since a wrong body is refused sooner so (docs/GATE.md).
use Rattle.std.proofs.Common.{rules}
use Rattle.cap_machine.proofs.table.cell_at.Goals as goal

pub returns-in-None : goal.returns-in-None
returns-in-None c = search rules
