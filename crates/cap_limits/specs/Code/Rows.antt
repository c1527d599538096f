-- The rows of limits, as the code makes them.
use Rattle.std.specs.Prelude.{ℕ, List, [], ◌∷◌, Option, Some, None}
use Rattle.std.specs.List.{flat_map}
use Rattle.cap_machine.specs.declared.cell.OnExec.{OnExec}
use Rattle.cap_machine.specs.declared.cell.Cell.{Cell}
use Rattle.cap_machine.specs.declared.cell.Cell.TheVariants.{Unknown, Closed, Held}
use Rattle.cap_limits.specs.declared.limit.Limit.{Limit}
use Rattle.cap_machine.specs.State.{State}
use Rattle.cap_limits.specs.Limits.{Row, row_of, least_of}

abbrev pub option_rows : Option Limit → List Row
option_rows None = []
option_rows (Some limit) = row_of limit ∷ []

-- the row of a descriptor with this cell, when these rights are wanted of it by its flag
abbrev pub cell_row : Cell → ℕ → (OnExec → ℕ) → List Row
cell_row Unknown f wanted = []
cell_row Closed f wanted = []
cell_row (Held rights flag) f wanted = (f, least_of rights (wanted flag)) ∷ []

abbrev pub held_row : State → (ℕ → ℕ → OnExec → ℕ) → ℕ → ℕ → List Row
held_row s wanted p f = cell_row (s.cell p f) f (wanted p f)

abbrev pub held_rows : State → (ℕ → ℕ → OnExec → ℕ) → ℕ → List ℕ → List Row
held_rows s wanted p fds = flat_map (held_row s wanted p) fds
