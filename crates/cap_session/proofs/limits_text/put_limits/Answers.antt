use Rattle.std.proofs.Common.{rules}
use Rattle.cap_session.proofs.LimitTexts.{limits_more}
use Rattle.cap_session.proofs.limits_text.put_limits.Goals as goal

pub loop-limit-preserved : goal.loop-limit-preserved
loop-limit-preserved c = (
  limits_more c.args.at c.args.pid c.loop-limit.next c.loop-limit.limit-index c.args.limits.now c.limit-item.result
      c.args.out.now.items c.loop-limit.out.items c.put_insertion.new.out.items c.loop-limit-test.true c.limit-item.is
      c.loop-limit.invariant.1 c.loop-limit.invariant.0 c.in_ok-put_insertion.ensures,
  search rules,
)
