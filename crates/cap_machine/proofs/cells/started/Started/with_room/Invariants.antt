use Rattle.std.proofs.Common.{◌≤◌}
use Rattle.cap_machine.proofs.cells.started.Started.with_room.Given as goal

abbrev pub invariant-loop-fd : goal.invariant-loop-fd
invariant-loop-fd l = record { small : l.small ≤ l.fd-index; large : l.large ≤ l.fd-index }
