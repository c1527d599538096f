use Rattle.std.proofs.Common.{◌≡◌, take}
use Rattle.cap_machine.specs.declared.cell.Cell.{Cell}
use Rattle.cap_machine.specs.Code.Cells.WrittenCells.{after_writes}
use Rattle.cap_machine.proofs.cells.written_cells.WrittenCells.lists.Given as goal

abbrev pub invariant-loop-one : goal.invariant-loop-one
invariant-loop-one l = (c : Cell) → after_writes c (take l.one-index l.one-items) l.fd ≡ c
