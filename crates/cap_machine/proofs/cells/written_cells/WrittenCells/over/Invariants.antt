use Rattle.std.proofs.Common.{◌≡◌, take}
use Rattle.cap_machine.specs.Code.Cells.WrittenCells.{after_writes}
use Rattle.cap_machine.proofs.cells.written_cells.WrittenCells.over.Given as goal

abbrev pub invariant-loop-one : goal.invariant-loop-one
invariant-loop-one l = l.cell ≡ after_writes l.fn.below (take l.one-index l.one-items) l.fd
