use Rattle.std.proofs.Common.{◌≡◌, [], map, take}
use Rattle.cap_machine.specs.Code.Starts.{added_by}
use Rattle.cap_machine.specs.State.{last_cells}
use Rattle.cap_machine.proofs.start.last_listed.Given as goal

abbrev pub invariant-loop-entry : goal.invariant-loop-entry
invariant-loop-entry l = l.last ≡ last_cells [] (map added_by (take l.entry-index l.entries)) l.pid
