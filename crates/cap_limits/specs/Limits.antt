-- The least rights of the descriptors of a process before a line.
use Rattle.std.specs.Prelude.{◌≡◌, ◌↔◌, ◌<◌, ◌≤◌, ◌^◌, ℕ, true, List, map, length, Some, None}
use Rattle.std.specs.List.Sorted.{IsStrictlyIncreasing}
use Rattle.cap_rights.specs.Rights.{meet, without_full, holds}
use Rattle.cap_machine.specs.declared.cell.OnExec.{OnExec}
use Rattle.cap_machine.specs.declared.cell.Cell.TheVariants.{Held}
use Rattle.cap_limits.specs.declared.limit.Limit.{Limit}
use Rattle.cap_machine.specs.declared.cell.Mode.TheVariants as modes
use Rattle.cap_machine.specs.declared.step.Step.{Step}
use Rattle.cap_limits.specs.declared.limits.Entering.{Entering}
use Rattle.cap_limits.specs.declared.limits.Entering.TheVariants.{Inside, Blocked, May}
use Rattle.cap_limits.specs.Live.{Live, IsFirstBlock}
use Rattle.cap_machine.specs.State.{State}

-- a descriptor and the rights that it is limited to
abbrev pub Row : Type 0
Row = ℕ × ℕ

-- these are just the rights that a cell with these rights and this flag holds and that are live in it
abbrev pub IsLeast : List Step → ℕ → ℕ → ℕ → OnExec → ℕ → Type 0
IsLeast later p f rights flag least = (least < 2 ^ 63)
    × ((k : ℕ) → k < 63 → (holds least k ≡ true) ↔ ((holds rights k ≡ true) × Live later p f flag k))

-- the descriptor is held in this state, and the row limits it to its live rights
abbrev pub IsLimit : State → List Step → ℕ → Row → Type 0
IsLimit s later p row = (rights : ℕ) × (flag : OnExec) × (s.cell p row.0 ≡ Held rights flag)
    × IsLeast later p row.0 rights flag row.1

abbrev pub row_of : Limit → Row
row_of limit = (limit.fd, limit.rights)

-- each row has a descriptor above that of the row before it; a descriptor has 32 bits
pub record AreInOrder (rows : List Row) : Type 0 where
  pub rise : IsStrictlyIncreasing (map (λ (row : Row). row.0) rows)
  pub few : length rows ≤ 2 ^ 32

abbrev pub least_of : ℕ → ℕ → ℕ
least_of held needed = without_full (meet held needed)

-- ---- capability mode

-- whether process p may enter before these steps, which begin at a position
abbrev pub IsEntering : State → ℕ → List Step → ℕ → Entering → Type 0
IsEntering s at later p Inside = s.mode p ≡ modes.Inside
IsEntering s at later p (Blocked position) = (s.mode p ≡ modes.Inside → ⊥) × IsFirstBlock later at p (Some position)
IsEntering s at later p May = (s.mode p ≡ modes.Inside → ⊥) × IsFirstBlock later at p None
