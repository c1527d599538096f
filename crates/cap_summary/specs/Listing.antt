-- Effects that list all that they change: a state is moved on by them cell by cell.
use Rattle.std.specs.Prelude.{IfSome, None, Some, false, true, ◌<◌, ◌==◌, ◌≡◌}
use Rattle.cap_summary.specs.{All, Bool, Cell, List, Names.RowWithin, Names.only, map, ℕ}
use Rattle.cap_summary.specs.declared.{base.DefaultCells.DefaultCells, effect.Effect.Effect, effect.Row.Row, value.Value.Value}
use Rattle.cap_summary.specs.{Effects.cell_in, Effects.row_cell, Keys.cell_mode, Keys.cells_of, Effects.changed, Keys.state_of, Positions.last_of}
use Rattle.cap_summary.specs.{Sorted.found, State, declared.key.Key.Key, declared.last_steps.LastSteps.LastSteps}
use Rattle.cap_trace.specs.Entry.{IsFd}

-- each descriptor that isn't listed keeps its cell, or all get the same one
abbrev pub is_plain : DefaultCells → Bool
is_plain (DefaultCells.Of q passing) = false
is_plain _ = true

-- the row of process p lists what it changes: it hands no table on, closes none from a descriptor on, reads no other
-- process, and lists no descriptor above the largest
pub record RowLists (p : ℕ) (row : Row) : Type 0 where
  pub others : is_plain row.base.others ≡ true
  pub not_closed : row.base.closed_from ≡ None
  pub own : RowWithin (only p) row
  pub within : All (λ (cell : ℕ × Value). IsFd cell.0) row.cells

-- each row of an effect does
abbrev pub EffectLists : Effect → Type 0
EffectLists effect = All (λ (entry : ℕ × Row). RowLists entry.0 entry.1) effect.rows

-- the cells that are listed, as they are in a state
abbrev pub listed_in : State → ℕ → List (ℕ × Value) → List (ℕ × Cell)
listed_in s p listed = map (λ (entry : ℕ × Value). (entry.0, s.cell p entry.0)) listed

-- the state after a segment with this effect
abbrev pub moved : Effect → State → State
moved effect s = state_of (changed effect (cells_of s))

-- rows of an effect, which list what they change
pub record IsRowOf (effect : Effect) (p : ℕ) (row : Row) : Type 0 where
  pub is : found effect.rows p ≡ Some row
  pub lists : RowLists p row

abbrev pub AreRowsOf : Effect → List (ℕ × Row) → Type 0
AreRowsOf effect rows = (p : ℕ) → IfSome (found rows p) (IsRowOf effect p)

-- one state gives process p this row, and leaves all others
pub record IsTakenRow (p : ℕ) (row : Row) (s r : State) : Type 0 where
  pub cells : (f : ℕ) → r.cell p f ≡ row_cell (cells_of s) p row (Key.Fd f)
  pub mode : r.mode p ≡ cell_mode (row_cell (cells_of s) p row Key.Mode)
  pub other_cells : (q f : ℕ) → (q == p) ≡ false → r.cell q f ≡ s.cell q f
  pub other_modes : (q : ℕ) → (q == p) ≡ false → r.mode q ≡ s.mode q

-- a state is moved on by rows: each process that makes a step after so many has what its row gives it
pub record IsTaken (last : LastSteps) (at : ℕ) (rows : List (ℕ × Row)) (s r : State) : Type 0 where
  pub cells : (p f : ℕ) → at < last_of last p → r.cell p f ≡ cell_in (cells_of s) (found rows p) p (Key.Fd f)
  pub modes : (p : ℕ) → at < last_of last p → r.mode p ≡ cell_mode (cell_in (cells_of s) (found rows p) p Key.Mode)
