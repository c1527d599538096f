use Rattle.std.proofs.Common.{◌≡◌, ℕ, ◌==◌, ◌||◌, take}
use Rattle.std.specs.List.{list_any}
use Rattle.cap_machine.specs.declared.cell.Cell.{Cell}
use Rattle.cap_limits.specs.Code.Singles.{has_fd}
use Rattle.cap_limits.proofs.standing.add_listed.Given as goal

abbrev pub invariant-loop-entry : goal.invariant-loop-entry
invariant-loop-entry l = (f : ℕ) → has_fd l.fds f
    ≡ (list_any (λ (entry : ℕ × Cell). f == entry.0) (take l.entry-index l.cells) || has_fd l.fn.fds f)
