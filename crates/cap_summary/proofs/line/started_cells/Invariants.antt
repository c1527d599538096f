use Rattle.cap_summary.specs.{Names.ListWithin, Names.Names, All, take, true, ◌≡◌}
use Rattle.cap_summary.proofs.{LineListed.IsStarted}
use Rattle.cap_summary.proofs.line.started_cells.Given as goal

abbrev pub invariant-loop-fd : goal.invariant-loop-fd
invariant-loop-fd l = record {
  cells : IsStarted (take l.fd-index l.fd-items) l.listed;
  names : (names : Names) → All (λ f. names.fds f ≡ true) l.fd-items → ListWithin names l.listed;
}
