use Rattle.cap_summary.proofs.{ap, sym, ◌∙◌}
use Rattle.cap_summary.proofs.Meeting.{always_wrongful, never_wrongful, nothing_more, now_certain, one_refusal}
use Rattle.cap_summary.proofs.precondition.Precondition.refuse_after.Goals.{After-is_certain}
use Rattle.cap_summary.specs.{All, Asks.CanHold, Asks.asks_of, Preconditions.IsPulledBack, State, false, not, ◌≡◌}
use Rattle.cap_summary.specs.{Effects.changed, Keys.cells_of, Preconditions.is_wrongful}
use Rattle.cap_summary.proofs.precondition.Precondition.refuse_after.Goals as goal

-- what is left to ask before the first segment
back : (c : After-is_certain) → IsPulledBack c.args.first.now (asks_of c.args.unless.now) (asks_of c.in-Some.asks) false
back c = rw c.in-Some.is at c.before-pulled.ensures.asks

can : (c : After-is_certain) → All CanHold (asks_of c.in-Some.asks)
can c = rw c.in-Some.is at c.before-pulled.ensures.can

pub returns-in_default-clause-more : goal.returns-in_default-clause-more
returns-in_default-clause-more c =
    let never : (s : State) → is_wrongful (changed c.args.first.now (cells_of s)) c.args.unless.now ≡ false =
    λ s. ap not ((rw c.in_default.is at c.before-pulled.ensures.always) s) in
    nothing_more _ _ _ _ _ _ c.args.self.now (λ s r. never s ∙ sym (never r)) never

pub returns-then-is_certain-clause-more : goal.returns-then-is_certain-clause-more
returns-then-is_certain-clause-more c =
    let at = (goal.at.returns-then-is_certain-clause-more c).After-is_certain in
    let never = never_wrongful _ c.args.self.now c.args.unless.now c.in-Some.asks (back at) (can at)
    (c.is_certain.ensures.always c.if-is_certain.true) in
    nothing_more _ _ _ _ _ _ c.args.self.now (λ s r. never s ∙ sym (never r)) never

pub returns-then-is_empty-clause-more : goal.returns-then-is_empty-clause-more
returns-then-is_empty-clause-more c =
    let at = (goal.at.returns-then-is_empty-clause-more c).After-is_certain in
    let always = always_wrongful _ c.args.self.now c.args.unless.now c.in-Some.asks (back at) (can at)
    (rw c.as_slice.ensures.asks at (sym c.is_empty.ensures ∙ c.if-is_empty.true)) in
    now_certain _ _ _ _ _ _ c.args.self.now (λ s r. always s ∙ sym (always r)) always

pub returns-in_ok-push-clause-more : goal.returns-in_ok-push-clause-more
returns-in_ok-push-clause-more c =
    let at = (goal.at.returns-in_ok-push-clause-more c).After-is_certain in
    one_refusal _ c.args.self.now c.args.unless.now c.in-Some.asks (back at) (can at) c.push.new.self c.in_ok-push.ensures.items
    (rw c.as_slice.ensures.asks at (sym c.is_empty.ensures ∙ c.if-is_empty.false))
    (c.is_certain.ensures.fails c.if-is_certain.false)
