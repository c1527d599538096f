use Rattle.std.proofs.Common.{◌≡◌, ℕ, take}
use Rattle.cap_trace.specs.Entry.{IsFd}
use Rattle.cap_machine.specs.Code.Cells.Parts.{in_shared}
use Rattle.cap_machine.specs.Code.Cells.Cells1M.{in_cells_1m}
use Rattle.cap_machine.specs.Code.Cells.Started.{in_started}
use Rattle.cap_machine.specs.Code.Cells.WrittenCells.{after_writes}
use Rattle.cap_machine.proofs.cells.flush_all.Given as goal

abbrev pub invariant-loop-one : goal.invariant-loop-one
invariant-loop-one l = (f : ℕ) → IsFd f
    → in_started l.started (in_shared in_cells_1m l.high f) f
    ≡ after_writes (in_started l.fn.started (in_shared in_cells_1m l.fn.high f) f) (take l.one-index l.one-items) f
