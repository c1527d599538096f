use Rattle.cap_summary.specs.{Differing.DifferAt, Keys.Cells, Asks.any_holds, Asks.asks_of, ◌≡◌, take}
use Rattle.cap_summary.proofs.difference.Differences.refuse_alike.Given as goal

abbrev pub invariant-loop-ask : goal.invariant-loop-ask
invariant-loop-ask l = record {
  alike : (old new : Cells) → DifferAt l.self.cells.items old new → any_holds old (take l.ask-index (asks_of l.refusal)) ≡ any_holds new (take l.ask-index (asks_of l.refusal));
}
