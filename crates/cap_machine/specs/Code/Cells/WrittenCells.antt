-- The cells that were written while there were few of them, over others.
use Rattle.std.specs.Prelude.{ℕ, ◌==◌, if◌then◌else◌, List, [], ◌∷◌}
use Rattle.cap_machine.specs.declared.cell.Cell.{Cell}
use Rattle.cap_machine.specs.declared.cells.written_cells.WrittenCell.{WrittenCell}
use Rattle.cap_machine.specs.declared.cells.written_cells.WrittenCells.{WrittenCells}
use Rattle.cap_machine.specs.Code.Cells.Kind.{cell_of_kind}

abbrev pub written : WrittenCell → Cell → ℕ → Cell
written one before f = if f == one.fd then cell_of_kind one.kind one.rights else before

-- the last one of a descriptor counts
abbrev pub after_writes : Cell → List WrittenCell → ℕ → Cell
after_writes below [] f = below
after_writes below (one ∷ cells) f = after_writes (written one below f) cells f

abbrev pub in_written_cells : WrittenCells → Cell → ℕ → Cell
in_written_cells few below f = after_writes below few.cells.items f
