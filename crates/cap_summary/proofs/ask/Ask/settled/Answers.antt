use Rattle.cap_summary.proofs.{Asking.holds_somewhere, Asking.never_passes, inr, sym, ◌∙◌}
use Rattle.cap_summary.proofs.ask.Ask.settled.Goals as goal

pub returns-then-is_possible-clause-can : goal.returns-then-is_possible-clause-can
returns-then-is_possible-clause-can c =
    holds_somewhere c.args.self.pid c.args.self.key c.args.self (sym c.is_possible.ensures ∙ c.if-is_possible.true)

pub returns-else-is_possible-clause-holds : goal.returns-else-is_possible-clause-holds
returns-else-is_possible-clause-holds c = λ s.
    let ask = c.args.self in
    sym (never_passes ask.pid ask.key ask (sym c.is_possible.ensures ∙ c.if-is_possible.false) s)

pub returns-else-is_possible-clause-agree : goal.returns-else-is_possible-clause-agree
returns-else-is_possible-clause-agree c = λ s r none.
    let ask = c.args.self in
    let never = never_passes ask.pid ask.key ask (sym c.is_possible.ensures ∙ c.if-is_possible.false) in
    inr (never s, never r)
