-- What limits_before answers: the least rights of the descriptors of a process before a line of a trace.
use Rattle.std.specs.Prelude.{◌≡◌, ◌⊎◌, ◌↔◌, ◌<◌, ◌+◌, ℕ, ◌==◌, Bool, true, false, List, ◌∷◌, ◌++◌, map, reverse, length}
use Rattle.std.specs.List.{All, list_any}
use Rattle.cap_trace.specs.Item.{Item}
use Rattle.cap_trace.specs.Item as items
use Rattle.cap_trace.specs.Entry.{Entry}
use Rattle.cap_machine.specs.declared.cell.Profile.{Profile}
use Rattle.cap_machine.specs.declared.step.Step.{Step}
use Rattle.cap_limits.specs.declared.limits.Limits.{Limits}
use Rattle.cap_limits.specs.declared.limits.LimitsBefore.{LimitsBefore}
use Rattle.cap_limits.specs.declared.limits.LimitsBefore.TheVariants as there
use Rattle.cap_rights.specs.Rights.{all}
use Rattle.cap_machine.specs.declared.cell.OnExec.TheVariants.{Unsure}
use Rattle.cap_machine.specs.declared.cell.Cell.TheVariants.{Unknown}
use Rattle.cap_machine.specs.State.{State, Added}
use Rattle.cap_machine.specs.Steps.{steps}
use Rattle.cap_machine.specs.History.{ended}
use Rattle.cap_machine.specs.State.{start_state}
use Rattle.cap_limits.specs.Limits.{Row, IsLeast, IsLimit}
use Rattle.cap_limits.specs.Live.{Live}
use Rattle.cap_limits.specs.Limits.{row_of, AreInOrder, IsEntering}
use Rattle.cap_limits.specs.Standing.{Stands, IsHeld}

-- one of these rows has this descriptor
abbrev pub rows_name : List Row → ℕ → Bool
rows_name rows f = list_any (λ (row : Row). f == row.0) rows

-- the descriptor is unknown, and the row has the rights that are live in it, at least one
abbrev pub IsUnknownLimit : State → List Step → ℕ → Row → Type 0
IsUnknownLimit s later p row =
    (s.cell p row.0 ≡ Unknown) × IsLeast later p row.0 all Unsure row.1 × (row.1 ≡ 0 → ⊥)

-- of process p between the steps before and those later, which begin at a position
pub record AreLimitsOf (start : List Added) (before later : List Step) (at p : ℕ) (limits : Limits) : Type 0 where
  pub pid : limits.pid ≡ p
  -- each row limits a held descriptor to its live rights
  pub least : All (IsLimit (ended (start_state start) before) later p) (map row_of limits.held.items)
  pub held_in_order : AreInOrder (map row_of limits.held.items)
  -- of those that are held, just the ones that stand have a row
  pub standing : (f : ℕ) → IsHeld ((ended (start_state start) before).cell p f)
      → (rows_name (map row_of limits.held.items) f ≡ true) ↔ Stands start (reverse before) p f
  pub unknown : All (IsUnknownLimit (ended (start_state start) before) later p) (map row_of limits.unknown.items)
  pub unknown_in_order : AreInOrder (map row_of limits.unknown.items)
  -- each unknown descriptor in which some right is live has a row
  pub unknown_live : (f k : ℕ) → k < 63 → (ended (start_state start) before).cell p f ≡ Unknown
      → Live later p f Unsure k → rows_name (map row_of limits.unknown.items) f ≡ true
  pub entering : IsEntering (ended (start_state start) before) at later p limits.entering

-- `@start` makes all cells of its process and its mode anew, so what is put in before it is lost
abbrev pub begins : Item → Bool
begins (items.Start fds) = true
begins _ = false

-- of the process of the line at a position of a trace, from 1: there is no such line, its process begins there, or it has
-- these limits
abbrev pub AreLimitsBefore : Profile → List Added → List Entry → ℕ → LimitsBefore → Type 0
AreLimitsBefore profile start lines at there.NoLine = (at ≡ 0) ⊎ (length lines < at)
AreLimitsBefore profile start lines at (there.Begins p) =
    (before : List Entry) × (line : Entry) × (later : List Entry) × (lines ≡ before ++ line ∷ later)
    × (at ≡ length before + 1) × (begins line.item ≡ true) × (p ≡ line.pid)
AreLimitsBefore profile start lines at (there.Limits limits) =
    (before : List Entry) × (line : Entry) × (later : List Entry) × (lines ≡ before ++ line ∷ later)
    × (at ≡ length before + 1)
    × AreLimitsOf start (steps profile before) (steps profile (line ∷ later)) at line.pid limits
    × (begins line.item ≡ false)
