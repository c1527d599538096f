use Rattle.std.proofs.Common.{◌≡◌, ℕ, ◌<◌, ◌≤◌, take}
use Rattle.cap_machine.specs.Touch.{started}
use Rattle.cap_machine.specs.Code.Cells.{cell_in_cells}
use Rattle.cap_machine.proofs.cells.Cells.start.Given as goal

abbrev pub invariant-loop-fd : goal.invariant-loop-fd
invariant-loop-fd l = record {
  low : (f : ℕ) → f < 64 → cell_in_cells l.self f ≡ started (take l.fd-index l.fds) f;
  high : (f : ℕ) → 64 ≤ f → cell_in_cells l.self f ≡ started l.fds f;
}
