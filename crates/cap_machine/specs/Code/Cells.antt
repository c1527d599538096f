-- The cells of a process, by what a look-up answers. Only the code's contracts use this; State says what is known.
pub mod Deferred
pub mod Kind
pub mod Parts
pub mod Cells256
pub mod Cells16K
pub mod Cells1M
pub mod WrittenCells
pub mod Started
pub mod DeferredFree
use Rattle.std.specs.Prelude.{ℕ, nat_le, nat_lt, if◌then◌else◌}
use Rattle.cap_trace.specs.Limits.{largest_fd}
use Rattle.cap_machine.specs.declared.cell.Cell.{Cell}
use Rattle.cap_machine.specs.declared.cells.Cells.{Cells}
use Rattle.cap_machine.specs.Code.Cells.Parts.{in_leaf, in_shared}
use Rattle.cap_machine.specs.Code.Cells.Cells1M.{in_cells_1m}
use Rattle.cap_machine.specs.Code.Cells.WrittenCells.{in_written_cells}
use Rattle.cap_machine.specs.Code.Cells.Started.{in_started}

-- those of the first 64 descriptors; of the others a few that were written, over those that are still as `@start` listed
-- them, over all others; and those above the largest descriptor
unfoldable pub cell_in_cells : Cells → ℕ → Cell
cell_in_cells cells f = if nat_lt f 64 then in_shared in_leaf cells.low f
    else (if nat_le f largest_fd then in_written_cells cells.few
    (in_started cells.started (in_shared in_cells_1m cells.high f) f) f
    else cells.above)
