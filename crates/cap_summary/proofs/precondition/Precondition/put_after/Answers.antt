use Rattle.cap_summary.specs.{Asks.AgreeOn, Asks.AreWithin, Asks.AskWithin, Asks.holds, Names.Names}
use Rattle.cap_summary.specs.Preconditions.{IfNamed, IsWithMore}
use Rattle.cap_summary.specs.{length, ◌≡◌}
use Rattle.cap_summary.proofs.{arith, take_all, sym, Meeting.nothing_more, Meeting.now_certain, Meeting.more_asks, Meeting.next_more}
use Rattle.cap_summary.proofs.{Meeting.named_then, Meeting.read_all}
use Rattle.cap_summary.proofs.precondition.Precondition.put_after.Goals as goal

pub loop-ask-preserved : goal.loop-ask-preserved
loop-ask-preserved c =
    let first = c.args.first.now in
    let asks = c.args.asks.now in
    let i = c.loop-ask.ask-index in
    let ask = c.ask-item.result in
    let pre = c.loop-ask.self in
    let pulled = c.before-in-loop-ask.ensures in
    let one = λ (names : Names). AskWithin names ask in
    let all = λ (names : Names). AreWithin names asks in
    let next : IsWithMore first (λ cells. holds cells ask) (λ s r. AgreeOn s r ask) (IfNamed one) 1 0 pre
    c.match-before.self = elim c.match-before.branch [
      | goal.in-Always w ↦ rw w.self-is (now_certain first (λ cells. holds cells ask) (λ s r. AgreeOn s r ask)
          (IfNamed one) 1 0 pre (λ s r. (rw w.in-Always.is at (pulled.agree s r)) tt)
          (λ s. sym (rw w.in-Always.is at (pulled.holds s))))
      | goal.in-Never w ↦ rw w.self-is (nothing_more first (λ cells. holds cells ask) (λ s r. AgreeOn s r ask)
          (IfNamed one) 1 0 pre (λ s r. (rw w.in-Never.is at (pulled.agree s r)) tt)
          (λ s. sym (rw w.in-Never.is at (pulled.holds s))))
      | goal.in-Where+in_ok-push-in-Where w ↦ rw w.self-is (more_asks first pre ask w.in-Where.ask w.push.new.self
          w.in_ok-push-in-Where.ensures.items (rw w.in-Where.is at pulled.can) (rw w.in-Where.is at pulled.holds)
          (rw w.in-Where.is at pulled.agree)
          (rw w.in-Where.is at pulled.names))
    ] in
    next_more first holds AgreeOn asks i ask (IfNamed all) (IfNamed one) i 0 1 0 _ pre _ c.loop-ask-test.true c.ask-item.is
    (named_then all one (λ names. read_all (AskWithin names) asks i ask c.loop-ask-test.true c.ask-item.is))
    c.loop-ask.invariant next

pub returns : goal.returns
returns c =
    let asks = c.args.asks.now in
    let all : c.loop-ask.ask-index ≡ length asks = omega arith in
    rw (take_all (length asks) asks (omega arith)) at (rw all at c.loop-ask.invariant)
