-- What is known of every process: of each of its descriptors, and whether it is in capability mode (capsicum(4)).
use Rattle.std.specs.Prelude.{ℕ, ◌==◌, if◌then◌else◌, List, [], ◌∷◌}
use Rattle.cap_machine.specs.declared.cell.Cell.{Cell}
use Rattle.cap_machine.specs.declared.cell.Cell.TheVariants.{Unknown}
use Rattle.cap_machine.specs.declared.cell.Mode.{Mode}
use Rattle.cap_machine.specs.declared.cell.Mode.TheVariants.{Unsure}

-- the cell of descriptor f of process p, and the mode of process p
pub record State : Type 0 where
  pub cell : ℕ → ℕ → Cell
  pub mode : ℕ → Mode

-- the usual start: nothing is known of any process
abbrev pub usual : State
usual = record { cell = λ p f. Unknown; mode = λ p. Unsure }

-- the cell of descriptor f among these, and else the rest; of a descriptor that is listed twice the last cell counts
abbrev pub listed_cell : Cell → List (ℕ × Cell) → ℕ → Cell
listed_cell rest [] f = rest
listed_cell rest (entry ∷ more) f = listed_cell (if f == entry.0 then entry.1 else rest) more f

-- what was added to a start of one process: its mode, the cells that are listed, and that of all its other descriptors
pub record Added : Type 0 where
  pub pid : ℕ
  pub mode : Mode
  pub rest : Cell
  pub cells : List (ℕ × Cell)

-- the cells that are listed of process p, and else these: of a process that was added twice the last time counts
abbrev pub last_cells : List (ℕ × Cell) → List Added → ℕ → List (ℕ × Cell)
last_cells cells [] p = cells
last_cells cells (next ∷ more) p = last_cells (if p == next.pid then next.cells else cells) more p

-- process p has this mode and these cells, and all else is as before
abbrev pub with_listed : State → ℕ → Mode → Cell → List (ℕ × Cell) → State
with_listed s me m rest cells = record {
  cell = λ p f. if p == me then listed_cell rest cells f else s.cell p f;
  mode = λ p. if p == me then m else s.mode p;
}

-- process p has this mode, and the cells that are listed; all its other descriptors, and all else, are as before
abbrev pub with_cells : State → ℕ → Mode → List (ℕ × Cell) → State
with_cells s me m cells = record {
  cell = λ p f. if p == me then listed_cell (s.cell me f) cells f else s.cell p f;
  mode = λ p. if p == me then m else s.mode p;
}

-- the state after these were added in turn
abbrev pub with_all : State → List Added → State
with_all s [] = s
with_all s (next ∷ more) = with_all (with_listed s next.pid next.mode next.rest next.cells) more

-- the state that a start stands for: from the usual one, what was added in turn
unfoldable pub start_state : List Added → State
start_state added = with_all usual added
