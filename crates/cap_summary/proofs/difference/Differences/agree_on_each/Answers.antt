use Rattle.cap_summary.specs.{Asks.AgreeOn}
use Rattle.cap_summary.proofs.{All-push, take_all, take_more}
use Rattle.cap_summary.proofs.difference.Differences.agree_on_each.Goals as goal

pub loop-ask-preserved : goal.loop-ask-preserved
loop-ask-preserved c =
    let ask = c.ask-item.result in record {
      alike = λ old new differ. rw (take_more c.args.asks.now c.loop-ask.ask-index ask c.loop-ask-test.true, ← c.ask-item.is)
          (All-push (AgreeOn old new) _ ask (c.loop-ask.invariant.alike old new differ)
          (c.agree_on.ensures c.if-not-agree_on.false old new differ));
    }

pub returns : goal.returns
returns c = λ is old new differ. rw (take_all c.loop-ask.ask-index c.args.asks.now c.loop-ask-test.false) at
    (c.loop-ask.invariant.alike old new differ)
