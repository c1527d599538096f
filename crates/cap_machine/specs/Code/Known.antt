-- What a table knows, as a list of what one would add to the usual start. Only the view of a checker uses this.
use Rattle.std.specs.Prelude.{ℕ, ◌==◌, if◌then◌else◌, List, [], ◌∷◌, suc, zero}
use Rattle.cap_trace.specs.Limits.{largest_fd}
use Rattle.cap_machine.specs.declared.cell.Cell.{Cell}
use Rattle.cap_machine.specs.declared.table.Process.{Process}
use Rattle.cap_machine.specs.declared.table.Table.{Table}
use Rattle.cap_machine.specs.Code.Cells.{cell_in_cells}
use Rattle.cap_machine.specs.State.{Added}
use Rattle.cap_machine.specs.Code.Table.{place_in}

-- above the largest descriptor all cells of a process are the same
unfoldable pub top : ℕ
top = suc largest_fd

-- the cells below a descriptor
abbrev pub cells_below : (ℕ → Cell) → ℕ → List (ℕ × Cell)
cells_below cell zero = []
cells_below cell (suc n) = (n, cell n) ∷ cells_below cell n

abbrev pub known_of : Process → Added
known_of process = record {
  pid = process.pid;
  mode = process.mode;
  rest = process.cells.above;
  cells = cells_below (cell_in_cells process.cells) top;
}

-- the processes that stand at their place, the first of these at place i
abbrev pub known_from : (ℕ → ℕ) → ℕ → List Process → List Added
known_from place i [] = []
known_from place i (process ∷ more) =
    if place process.pid == i then known_of process ∷ known_from place (suc i) more
    else known_from place (suc i) more

unfoldable pub known : Table → List Added
known table = known_from (place_in table.places.items) 0 table.processes.items
