-- The descriptors that are still as `@start` listed them.
use Rattle.std.specs.Prelude.{ℕ, ◌==◌, ◌||◌, Bool, if◌then◌else◌}
use Rattle.std.specs.List.{list_any}
use Rattle.cap_rights.specs.Rights.{all}
use Rattle.cap_machine.specs.declared.cell.OnExec.TheVariants.{Unsure}
use Rattle.cap_machine.specs.declared.cell.Cell.{Cell}
use Rattle.cap_machine.specs.declared.cell.Cell.TheVariants.{Held}
use Rattle.cap_machine.specs.declared.cells.started.Started.{Started}
use Rattle.cap_machine.specs.Code.Cells.Deferred.{with_deferred}

abbrev pub is_listed : Started → ℕ → Bool
is_listed started f = list_any (λ g. f == g) started.small.items || list_any (λ g. f == g) started.large.items

-- a listed one was held and never limited, and has had done to it what was done to all; another one has the cell c
abbrev pub in_started : Started → Cell → ℕ → Cell
in_started started c f = if is_listed started f then with_deferred started.deferred (Held all Unsure) else c
