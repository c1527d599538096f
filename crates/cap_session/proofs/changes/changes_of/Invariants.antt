use Rattle.cap_session.proofs.WalkRuns.{Walked}
use Rattle.cap_session.proofs.changes.changes_of.Given as goal

abbrev pub invariant-loop-run : goal.invariant-loop-run
invariant-loop-run l = Walked l.runs l.fn.then l.fn.now l.run-index l.then l.now l.changes.went.items l.changes.came.items
