-- The rows of makers, as the code makes them.
use Rattle.std.specs.Prelude.{ℕ, ◌==◌, if◌then◌else◌, List, [], ◌∷◌, ◌++◌, map, reverse}
use Rattle.std.specs.List.{flat_map}
use Rattle.cap_rights.specs.Rights.{all}
use Rattle.cap_machine.specs.declared.cell.OnExec.{OnExec}
use Rattle.cap_machine.specs.declared.cell.OnExec.TheVariants.{Unsure}
use Rattle.cap_machine.specs.declared.cell.Cell.{Cell}
use Rattle.cap_machine.specs.declared.cell.Cell.TheVariants.{Unknown, Closed, Held}
use Rattle.cap_machine.specs.declared.step.Step.{Step}
use Rattle.cap_limits.specs.declared.makers.Made.{Made}
use Rattle.cap_limits.specs.declared.makers.Made.TheVariants.{Nothing, One, Two}
use Rattle.cap_limits.specs.declared.makers.MakerRow.{MakerRow}
use Rattle.cap_limits.specs.declared.makers.MakerRow.TheVariants as rows
use Rattle.cap_machine.specs.State.{State}
use Rattle.cap_machine.specs.History.{after}
use Rattle.cap_limits.specs.Limits.{least_of}
use Rattle.cap_limits.specs.Makers.{made_fds}

abbrev pub listed_made : Made → List ℕ
listed_made Nothing = []
listed_made (One f) = f ∷ []
listed_made (Two f g) = f ∷ g ∷ []

-- the row of an unknown descriptor, when these rights are wanted of it
abbrev pub needed_row : ℕ → ℕ → ℕ → ℕ → List MakerRow
needed_row at p f wanted = if least_of all wanted == 0 then []
    else rows.Unknown (record { at = at; pid = p; fd = f; rights = least_of all wanted }) ∷ []

-- the row of a descriptor with this cell, when these rights are wanted of it by its flag
abbrev pub maker_row : ℕ → ℕ → ℕ → Cell → (OnExec → ℕ) → List MakerRow
maker_row at p f (Held rights flag) wanted =
    rows.Held (record { at = at; pid = p; fd = f; rights = least_of rights (wanted flag) }) ∷ []
maker_row at p f Unknown wanted = needed_row at p f (wanted Unsure)
maker_row at p f Closed wanted = []

abbrev pub maker_rows : State → ℕ → ℕ → List ℕ → (ℕ → OnExec → ℕ) → List MakerRow
maker_rows s at p fds wanted = flat_map (λ f. maker_row at p f (s.cell p f) (wanted f)) fds

-- the cells of these descriptors, the last one's first
abbrev pub cells_made : State → ℕ → List ℕ → List Cell
cells_made s p fds = map (s.cell p) (reverse fds)

-- the cells that the steps of a history made, its newest step first; those of a trace, its steps in their order
abbrev pub cells_back : State → List Step → List Cell
cells_back s [] = []
cells_back s (step ∷ history) =
    cells_back s history ++ cells_made (after s (step ∷ history)) step.line.pid (made_fds step.line.item)

abbrev pub cells_along : State → List Step → List Cell
cells_along s trace = cells_back s (reverse trace)
