use Rattle.cap_summary.specs.{Differing.are_at, false, take, ◌≡◌}
use Rattle.cap_summary.proofs.difference.Differences.find.Given as goal

abbrev pub invariant-loop-one : goal.invariant-loop-one
invariant-loop-one l = record { none : are_at (take l.one-index l.self.cells.items) l.pid l.key ≡ false }
