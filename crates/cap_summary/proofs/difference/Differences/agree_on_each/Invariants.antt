use Rattle.cap_summary.specs.{Differing.DifferAt, Keys.Cells, All, Asks.AgreeOn, take}
use Rattle.cap_summary.proofs.difference.Differences.agree_on_each.Given as goal

abbrev pub invariant-loop-ask : goal.invariant-loop-ask
invariant-loop-ask l = record {
  alike : (old new : Cells) → DifferAt l.self.cells.items old new → All (AgreeOn old new) (take l.ask-index l.asks);
}
