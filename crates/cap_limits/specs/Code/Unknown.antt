-- What later steps need of the descriptors of an unknown process.
use Rattle.std.specs.Prelude.{◌≡◌, ℕ, ◌==◌, if◌then◌else◌, true, List, [], ◌∷◌}
use Rattle.std.specs.List.{All, flat_map}
use Rattle.cap_rights.specs.Rights.{all}
use Rattle.cap_machine.specs.declared.cell.Cell.{Cell}
use Rattle.cap_machine.specs.declared.cell.Cell.TheVariants.{Unknown, Closed, Held}
use Rattle.cap_limits.specs.declared.live.fd_rights.ByFlag.{ByFlag}
use Rattle.cap_limits.specs.Limits.{Row}
use Rattle.cap_limits.specs.Limits.{least_of}
use Rattle.cap_limits.specs.LimitsBefore.{rows_name}

-- the row of a descriptor with this cell, when these rights are wanted of it where its flag isn't known
abbrev pub unknown_row : Cell → ℕ → ℕ → List Row
unknown_row Unknown f wanted = if least_of all wanted == 0 then [] else (f, least_of all wanted) ∷ []
unknown_row Closed f wanted = []
unknown_row (Held rights flag) f wanted = []

-- the rows of descriptors with what is wanted of each by its flag
abbrev pub unknown_rows : (ℕ → Cell) → List (ℕ × ByFlag) → List Row
unknown_rows cells wanted =
    flat_map (λ (entry : ℕ × ByFlag). unknown_row (cells entry.0) entry.0 entry.1.unsure) wanted

abbrev pub IsUnknownRow : (ℕ → Cell) → (ℕ → ℕ) → Row → Type 0
IsUnknownRow cells wanted row =
    (cells row.0 ≡ Unknown) × (row.1 ≡ least_of all (wanted row.0)) × (row.1 ≡ 0 → ⊥)

-- just those that are unknown and wanted have a row
abbrev pub AreUnknownRows : (ℕ → Cell) → (ℕ → ℕ) → List Row → Type 0
AreUnknownRows cells wanted rows = All (IsUnknownRow cells wanted) rows
    × ((f : ℕ) → cells f ≡ Unknown → (least_of all (wanted f) ≡ 0 → ⊥) → rows_name rows f ≡ true)
