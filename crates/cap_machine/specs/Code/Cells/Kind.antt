-- A cell as a leaf keeps it: its kind, and apart from it its rights.
use Rattle.std.specs.Prelude.{◌≡◌, ℕ, refl}
use Rattle.cap_rights.specs.Rights.{none}
use Rattle.cap_machine.specs.declared.cell.OnExec.TheVariants as flags
use Rattle.cap_machine.specs.declared.cell.Cell.{Cell}
use Rattle.cap_machine.specs.declared.cell.Cell.TheVariants as cells
use Rattle.cap_machine.specs.declared.cells.kind.CellKind.{CellKind}
use Rattle.cap_machine.specs.declared.cells.kind.CellKind.TheVariants.{Unknown, Closed, Set, Clear, Unsure}

abbrev pub kind_of_cell : Cell → CellKind
kind_of_cell cells.Unknown = Unknown
kind_of_cell cells.Closed = Closed
kind_of_cell (cells.Held rights flags.Set) = Set
kind_of_cell (cells.Held rights flags.Clear) = Clear
kind_of_cell (cells.Held rights flags.Unsure) = Unsure

-- a cell that isn't held keeps no rights
abbrev pub rights_of_cell : Cell → ℕ
rights_of_cell cells.Unknown = none
rights_of_cell cells.Closed = none
rights_of_cell (cells.Held rights flag) = rights

abbrev pub cell_of_kind : CellKind → ℕ → Cell
cell_of_kind Unknown rights = cells.Unknown
cell_of_kind Closed rights = cells.Closed
cell_of_kind Set rights = cells.Held rights flags.Set
cell_of_kind Clear rights = cells.Held rights flags.Clear
cell_of_kind Unsure rights = cells.Held rights flags.Unsure

-- both together are the cell
pub kept_cell : (c : Cell) → cell_of_kind (kind_of_cell c) (rights_of_cell c) ≡ c
kept_cell cells.Unknown = refl
kept_cell cells.Closed = refl
kept_cell (cells.Held rights flags.Set) = refl
kept_cell (cells.Held rights flags.Clear) = refl
kept_cell (cells.Held rights flags.Unsure) = refl
