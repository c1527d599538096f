use Rattle.cap_summary.specs.{All, false, Asks.CanHold, Asks.asks_of, Preconditions.IsPulledBack, take}
use Rattle.cap_summary.proofs.up_to_three.UpToThree.before.Given as goal

abbrev pub invariant-loop-ask : goal.invariant-loop-ask
invariant-loop-ask l = record {
  back : IsPulledBack l.first (take l.ask-index (asks_of l.self)) (asks_of l.before) false;
  can : All CanHold (asks_of l.before);
}
