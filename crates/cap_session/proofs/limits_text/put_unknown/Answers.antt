use Rattle.cap_session.proofs.LimitTexts.{unknown_more}
use Rattle.cap_session.proofs.limits_text.put_unknown.Goals as goal

pub loop-limit-preserved : goal.loop-limit-preserved
loop-limit-preserved c = unknown_more c.loop-limit.limit-index c.args.limits.now c.limit-item.result
    c.args.out.now.items c.loop-limit.out.items c.put_needed.new.out.items c.loop-limit-test.true c.limit-item.is
    c.loop-limit.invariant c.in_ok-put_needed.ensures
