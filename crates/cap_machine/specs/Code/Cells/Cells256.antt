-- The cells of 256 descriptors.
use Rattle.std.specs.Prelude.{ℕ}
use Rattle.cap_machine.specs.declared.cell.Cell.{Cell}
use Rattle.cap_machine.specs.declared.cells.cells_256.Cells256.{Cells256}
use Rattle.cap_machine.specs.Code.Cells.Parts.{in_leaf, in_node}

unfoldable pub in_cells_256 : Cells256 → ℕ → Cell
in_cells_256 block f = in_node (in_node in_leaf 4) 32 block.node f
