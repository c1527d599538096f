-- What becomes of each cell over a segment, whatever the cells before it: the transfer function of the segment.
use Rattle.std.specs.Prelude.{None, Option, Some, false, if◌then◌else◌, is_none, not, true, ◌&&◌, ◌==◌, ◌||◌, ◌≡◌}
use Rattle.cap_summary.specs.{Bool, Cell, State, Unknown, [], applied, follows, nat_le, stays, touched, turns}
use Rattle.cap_summary.specs.{Closed, Keys.cells_of, Keys.mode_cell, Keys.state_of, Turn, exec, kept, option_map_or, ℕ}
use Rattle.cap_summary.specs.{Keys.Cells, Keys.read, LineEffect, Sorted.found, effect_touch, effect_turn, start_state}
use Rattle.cap_summary.specs.declared.{base.Passing.Passing, before.Before.Before, effect.Effect.Effect, effect.Row.Row}
use Rattle.cap_summary.specs.declared.{base.Base.Base, base.DefaultCells.DefaultCells, key.Key.Key, value.Value.Value}

-- how a whole table of cells is handed on: unchanged (fork(2)), or by an exec (execve(2))
abbrev pub passed : Passing → Cell → Cell
passed Passing.Same c = c
passed Passing.Exec c = applied exec c

-- a descriptor at or above the one from which cells are closed, where there is one
abbrev pub is_from : Option ℕ → ℕ → Bool
is_from None f = false
is_from (Some n) f = nat_le n f

-- the cell of a descriptor of process p that isn't listed
abbrev pub others_cell : Cells → ℕ → DefaultCells → ℕ → Cell
others_cell cells p DefaultCells.Own f = cells p (Key.Fd f)
others_cell cells p DefaultCells.Unknown f = Unknown
others_cell cells p DefaultCells.Closed f = Closed
others_cell cells p (DefaultCells.Of q passing) f = passed passing (cells q (Key.Fd f))

abbrev pub base_cell : Cells → ℕ → Base → ℕ → Cell
base_cell cells p base f = if is_from base.closed_from f then Closed else others_cell cells p base.others f

-- the value that a row lists at a key, if it lists one
abbrev pub listed_value : Row → Key → Option Value
listed_value row Key.Mode = row.mode
listed_value row (Key.Fd f) = found row.cells f

-- the cell of a key of process p, which has this row
abbrev pub row_cell : Cells → ℕ → Row → Key → Cell
row_cell cells p row Key.Mode = option_map_or (read cells) row.mode (cells p Key.Mode)
row_cell cells p row (Key.Fd f) = option_map_or (read cells) (found row.cells f) (base_cell cells p row.base f)

-- the row of a process that is unchanged
abbrev pub own_row : Row
own_row = record { base = record { others = DefaultCells.Own; closed_from = None }; mode = None; cells = [] }

-- a row that may be there: without one a process keeps its cells
abbrev pub cell_in : Cells → Option Row → ℕ → Key → Cell
cell_in cells row p k = option_map_or (λ row. row_cell cells p row k) row (cells p k)

-- the cells after the segment
abbrev pub changed : Effect → Cells → Cells
changed effect cells p k = cell_in cells (found effect.rows p) p k

-- the state after a start and effects
abbrev pub state_before : Before → State
state_before (Before.At start) = start_state start.now
state_before (Before.Now machine) = start_state machine.now
state_before (Before.After' p before effect) = state_of (changed effect.now (cells_of (state_before before)))

-- ---- what no line of a segment touches, as far as is known; a cell that came back by a fork is touched
abbrev pub is_own : DefaultCells → Bool
is_own DefaultCells.Own = true
is_own _ = false

-- a descriptor that isn't listed
abbrev pub base_leaves : Base → ℕ → Bool
base_leaves base f = is_own base.others && not (is_from base.closed_from f)

abbrev pub row_leaves : Row → Key → Bool
row_leaves row Key.Mode = is_none row.mode
row_leaves row (Key.Fd f) = is_none (found row.cells f) && base_leaves row.base f

-- a row that may be there
abbrev pub leaves_in : Option Row → Key → Bool
leaves_in row k = option_map_or (λ row. row_leaves row k) row true

abbrev pub leaves : Effect → ℕ → Key → Bool
leaves effect p k = leaves_in (found effect.rows p) k

-- a line doesn't touch a cell, or turn a mode; me is its process
abbrev pub LineLeaves : LineEffect → ℕ → ℕ → Key → Type 0
LineLeaves line me p Key.Mode = effect_turn line me p ≡ stays
LineLeaves line me p (Key.Fd f) = effect_touch line me p f ≡ kept

-- ---- one line, where me is its process: the cell of a mode after a turn, of what the cells were before
abbrev pub turned_cell : Turn → Cells → ℕ → Cell
turned_cell stays cells p = cells p Key.Mode
turned_cell (turns m) cells p = mode_cell m
turned_cell (follows q) cells p = cells q Key.Mode

-- the cells after a line with this effect
abbrev pub line_after : LineEffect → ℕ → Cells → Cells
line_after effect me cells p Key.Mode = turned_cell (effect_turn effect me p) cells p
line_after effect me cells p (Key.Fd f) = touched (effect_touch effect me p f) (λ q g. cells q (Key.Fd g)) p f

-- a process whose row a line makes anew: its own, or the child that it makes, or both
abbrev pub is_touched : LineEffect → ℕ → ℕ → Bool
is_touched (LineEffect.Fork child) me p = p == child
is_touched (LineEffect.ForkAs child f) me p = p == me || p == child
is_touched _ me p = p == me

-- a line of process me sets single cells alone, each to a value of its own
abbrev pub sets_cells : LineEffect → Bool
sets_cells (LineEffect.Give f c) = true
sets_cells (LineEffect.GiveTwo f g c) = true
sets_cells (LineEffect.Change f op g) = true
sets_cells _ = false

-- the cell of descriptor f of process q
abbrev pub is_cell : ℕ → ℕ → ℕ → Key → Bool
is_cell q f p Key.Mode = false
is_cell q f p (Key.Fd g) = p == q && g == f
