use Rattle.std.proofs.Common.{◌≡◌, ℕ, take}
use Rattle.cap_machine.specs.declared.cell.Cell.{Cell}
use Rattle.cap_machine.specs.declared.cells.deferred.Deferred.TheVariants.{Exec}
use Rattle.cap_machine.specs.Code.Cells.Deferred.{with_deferred}
use Rattle.cap_machine.specs.Code.Cells.WrittenCells.{after_writes, in_written_cells}
use Rattle.cap_machine.proofs.cells.written_cells.WrittenCells.executed.Given as goal

abbrev pub invariant-loop-one : goal.invariant-loop-one
invariant-loop-one l = (c : Cell) (f : ℕ)
    → in_written_cells l.new (with_deferred Exec c) f
    ≡ with_deferred Exec (after_writes c (take l.one-index l.one-items) f)
