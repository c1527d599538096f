use Rattle.std.specs.Prelude.{◌≡◌, ◌<◌, ◌++◌, [], List, length, get_or, take}
use Rattle.cap_summary.specs.{Asks.CanHold, Asks.asks_of, false, Preconditions.IsPulledBack, declared.ask.Ask.Ask}
use Rattle.cap_summary.proofs.{sym, append-nil, All-push, Pulling.pulled_never, Pulling.pulled_put}
use Rattle.cap_summary.proofs.up_to_three.UpToThree.before.Goals as goal

pub loop-ask-preserved : goal.loop-ask-preserved
loop-ask-preserved c =
    let first = c.args.first.now in
    let asks : List Ask = asks_of c.args.self.now in
    let i = c.loop-ask.ask-index in
    let ask = c.ask-item.result in
    let kept : List Ask = asks_of c.loop-ask.before in
    let within : i < length asks = rw c.as_slice-ask-items.ensures.asks at c.loop-ask-test.true in
    let is : ask ≡ get_or asks i ask = rw c.as_slice-ask-items.ensures.asks at c.ask-item.is in
    let so_far = c.loop-ask.invariant in
    let back : IsPulledBack first (take i asks) (kept ++ []) false = rw append-nil so_far.back in
    let pulled = c.before-in-loop-ask.ensures in
    elim c.match-before.branch [
      | goal.in-Never w ↦ record {
        back = rw w.before-is (rw append-nil at (pulled_never first asks i ask kept [] false within is back
            (λ s. sym (rw w.in-Never.is at (pulled.holds s))) (λ s r. (rw w.in-Never.is at (pulled.agree s r)) tt)));
        can = rw w.before-is so_far.can;
      }
      | goal.in-Where w ↦
          let may : CanHold w.in-Where.ask = rw w.in-Where.is at pulled.can in record {
            back = rw (w.before-is, w.push.ensures.asks) (rw append-nil at (pulled_put first asks i ask kept [] false within is
                back w.in-Where.ask (λ can. may) (rw w.in-Where.is at pulled.holds) (rw w.in-Where.is at pulled.agree)
                (rw w.in-Where.is at pulled.names)));
            can = rw (w.before-is, w.push.ensures.asks) (All-push CanHold kept w.in-Where.ask so_far.can may);
          }
    ]
