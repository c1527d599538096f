use Rattle.std.proofs.Common.{◌∙◌}
use Rattle.cap_machine.specs.State.{start_state}
use Rattle.cap_machine.proofs.Walking.{chain_finished, cell_finished}
use Rattle.cap_machine.proofs.walks.CellWalk.finish.Goals as goal

pub returns-clause-chain : goal.returns-clause-chain
returns-clause-chain c =
    chain_finished c.args.self (start_state c.args.start.now) c.deref.result.now c.cell.result c.end-end.result
    c.in_ok-cell.links.items (c.deref.ensures.value, c.cell.ensures, c.end-end.ensures) c.in_ok-cell.ensures.links

pub returns-clause-cell : goal.returns-clause-cell
returns-clause-cell c =
    c.in_ok-cell.ensures.cell
    ∙ cell_finished c.args.self (start_state c.args.start.now) c.deref.result.now c.cell.result c.end-end.result
    (c.deref.ensures.value, c.cell.ensures, c.end-end.ensures)
