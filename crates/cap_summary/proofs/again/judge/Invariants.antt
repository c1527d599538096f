use Rattle.cap_summary.specs.{found_at, map, take, ◌++◌, ◌+◌, ◌≡◌}
use Rattle.cap_summary.proofs.again.judge.Given as goal

abbrev pub invariant-loop-finding : goal.invariant-loop-finding
invariant-loop-finding l = l.found.items ≡ l.fn.found.items
    ++ map (found_at (l.fn.at + 1)) (take l.finding-index l.finding-items)
