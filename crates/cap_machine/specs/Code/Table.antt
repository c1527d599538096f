-- The state that a table of processes keeps, by look-up.
use Rattle.std.specs.Prelude.{◌≡◌, ℕ, ◌<◌, ◌==◌, ◌&&◌, if◌then◌else◌, List, Option, Some, None, slice_get}
use Rattle.std.specs.Prelude.{slice_index_or}
use Rattle.std.specs.Option.{option_map_or}
use Rattle.std.specs.Vec.{vec_len}
use Rattle.cap_machine.specs.declared.cell.Cell.{Cell}
use Rattle.cap_machine.specs.declared.cell.Cell.TheVariants.{Unknown}
use Rattle.cap_machine.specs.declared.cell.Mode.{Mode}
use Rattle.cap_machine.specs.declared.cell.Mode.TheVariants.{Unsure}
use Rattle.cap_machine.specs.declared.table.Process.{Process}
use Rattle.cap_machine.specs.declared.table.Table.{Table}
use Rattle.cap_machine.specs.State.{State}
use Rattle.cap_machine.specs.Code.Cells.{cell_in_cells}
use Rattle.cap_machine.specs.declared.rule.Effect.{Effect}
use Rattle.cap_machine.specs.Touch.{Touch}
use Rattle.cap_machine.specs.Effect.{effect_touch, effect_turn}
use Rattle.cap_machine.specs.History.{touched, turned}

-- a descriptor of a process
abbrev pub cell_in : Process → ℕ → Cell
cell_in process f = cell_in_cells process.cells f

-- a process, if its pid is this one
abbrev pub own : ℕ → Option Process → Option Process
own p None = None
own p (Some process) = if process.pid == p then Some process else None

-- among the processes, the one at a place, if its pid is this one
abbrev pub own_at : List Process → ℕ → ℕ → Option Process
own_at processes place p = own p (slice_get processes place)

-- the place that is written for a pid, and 0 where none is
abbrev pub place_in : List ℕ → ℕ → ℕ
place_in places p = slice_index_or places p 0

-- the process with this pid, at the place that is written for it
abbrev pub found : Table → ℕ → Option Process
found table p = own_at table.processes.items (place_in table.places.items p) p

abbrev pub cell_of : Table → ℕ → ℕ → Cell
cell_of table p f = option_map_or (λ process. cell_in process f) (found table p) Unknown

abbrev pub mode_of : Table → ℕ → Mode
mode_of table p = option_map_or (λ (process : Process). process.mode) (found table p) Unsure

-- the process with this pid is at this place
pub record StandsAt (table : Table) (p i : ℕ) : Type 0 where
  pub place : i ≡ place_in table.places.items p
  pub within : i < vec_len table.processes
  pub owner : (d : Process) → (slice_index_or table.processes.items i d).pid ≡ p

abbrev pub state_of : Table → State
state_of table = record { cell = cell_of table; mode = mode_of table }

-- two processes that have the same cells, the same mode and the same pid
abbrev pub IsSame : Process → Process → Type 0
IsSame a b = ((f : ℕ) → cell_in b f ≡ cell_in a f) × (b.mode ≡ a.mode) × (b.pid ≡ a.pid)

-- the table keeps this state
pub record Keeps (table : Table) (s : State) : Type 0 where
  pub cells : (p f : ℕ) → cell_of table p f ≡ s.cell p f
  pub modes : (p : ℕ) → mode_of table p ≡ s.mode p

-- one cell is written
abbrev pub with_cell : State → ℕ → ℕ → Cell → State
with_cell s me g c = record { cell = λ p f. if p == me && f == g then c else s.cell p f; mode = s.mode }

-- a process is as given
abbrev pub with_process : State → ℕ → Process → State
with_process s me process = record {
  cell = λ p f. if p == me then cell_in process f else s.cell p f;
  mode = λ p. if p == me then process.mode else s.mode p;
}

-- a child has what its parent has
abbrev pub with_copy : State → ℕ → ℕ → State
with_copy s parent child = record {
  cell = λ p f. if p == child then s.cell parent f else s.cell p f;
  mode = λ p. if p == child then s.mode parent else s.mode p;
}

-- the state after an effect of process me
abbrev pub effect_after : Effect → ℕ → State → State
effect_after effect me s = record {
  cell = λ p f. touched (effect_touch effect me p f) s.cell p f;
  mode = λ p. turned (effect_turn effect me p) s.mode p;
}

-- the state after these touches, in which no mode changes
abbrev pub touched_by : (ℕ → ℕ → Touch) → State → State
touched_by touches s = record { cell = λ p f. touched (touches p f) s.cell p f; mode = s.mode }
