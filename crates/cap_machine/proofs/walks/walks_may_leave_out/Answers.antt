use Rattle.cap_machine.proofs.Walking.{cells_may_be_left_out, modes_may_be_left_out}
use Rattle.cap_machine.proofs.walks.walks_may_leave_out.Goals as goal

pub returns-clause-cells : goal.returns-clause-cells
returns-clause-cells c = cells_may_be_left_out

pub returns-clause-modes : goal.returns-clause-modes
returns-clause-modes c = modes_may_be_left_out
