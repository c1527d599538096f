use Rattle.std.proofs.Common.{◌≡◌, ◌++◌, map, take, drop}
use Rattle.cap_session.specs.Code.RunTable.{up}
use Rattle.cap_session.proofs.origins.move_up.Given as goal

abbrev pub invariant-loop-run : goal.invariant-loop-run
invariant-loop-run l = l.runs ≡ map up (take l.run-index l.fn.runs) ++ drop l.run-index l.fn.runs
