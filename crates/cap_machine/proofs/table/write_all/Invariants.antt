use Rattle.std.proofs.Common.{◌≡◌, ℕ, take}
use Rattle.cap_machine.specs.Code.Cells.{cell_in_cells}
use Rattle.cap_machine.specs.State.{listed_cell}
use Rattle.cap_machine.proofs.table.write_all.Given as goal

abbrev pub invariant-loop-fd : goal.invariant-loop-fd
invariant-loop-fd l =
    (f : ℕ) → cell_in_cells l.cells f ≡ listed_cell (cell_in_cells l.fn.cells f) (take l.fd-index l.listed) f
