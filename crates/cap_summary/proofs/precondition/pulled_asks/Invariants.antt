use Rattle.std.specs.Prelude.{◌≡◌, ◌++◌, take, drop, option_copied}
use Rattle.cap_summary.specs.{Asks.Rises, Preconditions.IsPulledBack, Sorted.found}
use Rattle.cap_summary.proofs.precondition.pulled_asks.Given as goal

abbrev pub invariant-loop-ask : goal.invariant-loop-ask
invariant-loop-ask l = record {
  back : IsPulledBack l.first (take l.ask-index l.asks) (l.kept.items ++ l.moved.items) l.certain;
  kept : Rises (l.kept.items ++ drop l.ask-index l.asks);
  row : option_copied l.row ≡ found l.first.rows l.pid;
}
