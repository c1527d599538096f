use Rattle.cap_summary.specs.{Found, found_at, map, take, ◌++◌, ◌+◌, ◌-◌, ◌≡◌}
use Rattle.cap_summary.proofs.again.Again.copy.Given as goal

abbrev pub invariant-loop-one : goal.invariant-loop-one
invariant-loop-one l = record {
  copied : l.found.items ≡ l.initial.found.items
      ++ map (λ (x : Found). found_at (x.at - l.was + l.at) x.finding) (take l.one-index l.one-items);
}
