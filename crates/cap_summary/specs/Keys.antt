-- Cells by key, and the values that rows list for them. A key is a descriptor, or the mode, which is kept as a cell.
use Rattle.std.specs.Prelude.{All, Bool, List, [], length, min, true, ℕ, ◌+◌, ◌∷◌, ◌≡◌}
use Rattle.cap_summary.specs.{Cell, Clear, Closed, Held, Mode, Sorted.KeysRise, State, Unknown, applied, exec, none}
use Rattle.cap_summary.specs.declared.{effect.Row.Row, key.Key.Key, value.Value.Value, view.Seen.Seen}

-- the cell for each mode
abbrev pub mode_cell : Mode → Cell
mode_cell Mode.Unsure = Unknown
mode_cell Mode.Inside = Closed
mode_cell Mode.Outside = Held none Clear

-- the mode that a cell is kept for
abbrev pub cell_mode : Cell → Mode
cell_mode Unknown = Mode.Unsure
cell_mode Closed = Mode.Inside
cell_mode (Held rights flag) = Mode.Outside

-- the cell of each key of each process
abbrev pub Cells : Type 0
Cells = ℕ → Key → Cell

-- a state, by key
abbrev pub cells_of : State → Cells
cells_of s p Key.Mode = mode_cell (s.mode p)
cells_of s p (Key.Fd f) = s.cell p f

-- a state, by its cells
abbrev pub state_of : Cells → State
state_of cells = record { cell = λ p f. cells p (Key.Fd f); mode = λ p. cell_mode (cells p Key.Mode) }

-- the cell that a value stands for: a constant, a cell before the segment, or what an op makes of one
abbrev pub read : Cells → Value → Cell
read cells Value.Unknown = Unknown
read cells Value.Closed = Closed
read cells (Value.Held rights flag) = Held rights flag
read cells (Value.Same p k) = cells p k
read cells (Value.Of p k op) = applied op (cells p k)

-- the cell that a value reads, if it reads one, is among these
abbrev pub reads_within : (ℕ → Key → Bool) → Value → Bool
reads_within names (Value.Same p k) = names p k
reads_within names (Value.Of p k op) = names p k
reads_within names _ = true

-- the cell after a segment that is seen
abbrev pub seen_cell : Cells → Seen → Cell
seen_cell cells (Seen.Is c) = c
seen_cell cells (Seen.Same p k) = cells p k
seen_cell cells (Seen.Executed p k) = applied exec (cells p k)
seen_cell cells (Seen.Made op p k) = applied op.now (cells p k)

-- the cell that is read to see it, if one is, is among these
abbrev pub seen_within : (ℕ → Key → Bool) → Seen → Bool
seen_within names (Seen.Is c) = true
seen_within names (Seen.Same p k) = names p k
seen_within names (Seen.Executed p k) = names p k
seen_within names (Seen.Made op p k) = names p k

-- how many rows there are, and cells that they list
abbrev pub rows_size : List (ℕ × Row) → ℕ
rows_size [] = 0
rows_size ((p, row) ∷ rows) = (length row.cells + 1) + rows_size rows

-- the descriptors that a row lists rise
abbrev pub CellsRise : ℕ × Row → Type 0
CellsRise entry = KeysRise entry.1.cells

-- the processes of rows rise, and so do the descriptors that each lists
pub record AllRise (rows : List (ℕ × Row)) : Type 0 where
  pub pids : KeysRise rows
  pub cells : All CellsRise rows

-- so many, as far as they can be counted
pub record IsSizeOf (rows : List (ℕ × Row)) (n : ℕ) : Type 0 where
  pub count : n ≡ min (rows_size rows) 18446744073709551615
  pub rising : AllRise rows
