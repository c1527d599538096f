use Rattle.cap_machine.proofs.CellChains.{cells_are_replayed}
use Rattle.cap_machine.proofs.ModeChains.{modes_are_followed}
use Rattle.cap_machine.proofs.provenance_laws.chains_are_enough.Goals as goal

pub returns-clause-cells : goal.returns-clause-cells
returns-clause-cells c = cells_are_replayed

pub returns-clause-modes : goal.returns-clause-modes
returns-clause-modes c = modes_are_followed
