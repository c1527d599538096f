-- The cells of 16,384 descriptors.
use Rattle.std.specs.Prelude.{ℕ}
use Rattle.cap_machine.specs.declared.cell.Cell.{Cell}
use Rattle.cap_machine.specs.declared.cells.cells_16k.Cells16K.{Cells16K}
use Rattle.cap_machine.specs.Code.Cells.Parts.{in_node}
use Rattle.cap_machine.specs.Code.Cells.Cells256.{in_cells_256}

unfoldable pub in_cells_16k : Cells16K → ℕ → Cell
in_cells_16k region f = in_node (in_node in_cells_256 256) 2048 region.node f
