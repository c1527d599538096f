use Rattle.cap_summary.specs.{All, Asks.AgreeOn, Asks.AreWithin, Asks.any_holds, Preconditions.IfNamed, Preconditions.IsWithMore, take}
use Rattle.cap_summary.proofs.precondition.Precondition.put_after.Given as goal

abbrev pub invariant-loop-ask : goal.invariant-loop-ask
invariant-loop-ask l = IsWithMore l.first (λ cells. any_holds cells (take l.ask-index l.asks))
    (λ s r. All (AgreeOn s r) (take l.ask-index l.asks)) (IfNamed (λ names. AreWithin names l.asks)) l.ask-index 0 l.initial.self l.self
