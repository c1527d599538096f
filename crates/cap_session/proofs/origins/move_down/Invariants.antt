use Rattle.std.proofs.Common.{◌≡◌, ◌++◌, map, take, drop}
use Rattle.cap_session.specs.Code.RunTable.{down}
use Rattle.cap_session.proofs.origins.move_down.Given as goal

abbrev pub invariant-loop-run : goal.invariant-loop-run
invariant-loop-run l = l.runs ≡ map down (take l.run-index l.fn.runs) ++ drop l.run-index l.fn.runs
