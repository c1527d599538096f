use Rattle.cap_summary.specs.{Asks.are_sure_at, Asks.asks_of, Asks.has_kind, Cell, take, ◌≡◌}
use Rattle.cap_summary.proofs.up_to_three.UpToThree.are_sure_at.Given as goal

abbrev pub invariant-loop-ask : goal.invariant-loop-ask
invariant-loop-ask l = record {
  sure : (c : Cell) → has_kind l.kinds c ≡ are_sure_at (take l.ask-index (asks_of l.self)) l.at.pid l.at.key c;
}
