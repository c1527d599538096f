use Rattle.cap_machine.proofs.CellChains.{cells_skip_none}
use Rattle.cap_machine.proofs.ModeChains.{modes_skip_none}
use Rattle.cap_machine.proofs.provenance_laws.chains_skip_no_line.Goals as goal

pub returns-clause-cells : goal.returns-clause-cells
returns-clause-cells c = cells_skip_none

pub returns-clause-modes : goal.returns-clause-modes
returns-clause-modes c = modes_skip_none
