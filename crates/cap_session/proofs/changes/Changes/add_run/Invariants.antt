use Rattle.std.proofs.Common.{ℕ, ◌+◌, length}
use Rattle.cap_session.proofs.InRun.{Compared}
use Rattle.cap_session.proofs.changes.Changes.add_run.Given as goal

abbrev pub invariant-loop-line : goal.invariant-loop-line
invariant-loop-line l = (line : ℕ) × Compared l.run l.fn.then l.fn.now l.fn.self.went.items l.fn.self.came.items line
    l.then l.now l.self.went.items l.self.came.items

abbrev pub decreases-loop-line : goal.decreases-loop-line
decreases-loop-line l = length l.then + length l.now
