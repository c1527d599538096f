-- The cells of 1,048,576 descriptors.
use Rattle.std.specs.Prelude.{ℕ}
use Rattle.cap_machine.specs.declared.cell.Cell.{Cell}
use Rattle.cap_machine.specs.declared.cells.cells_1m.Cells1M.{Cells1M}
use Rattle.cap_machine.specs.Code.Cells.Parts.{in_node}
use Rattle.cap_machine.specs.Code.Cells.Cells16K.{in_cells_16k}

unfoldable pub in_cells_1m : Cells1M → ℕ → Cell
in_cells_1m high f = in_node (in_node in_cells_16k 16384) 131072 high.node f
