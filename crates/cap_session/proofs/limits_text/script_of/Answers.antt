use Rattle.cap_session.proofs.LimitTexts.{makers_more}
use Rattle.cap_session.proofs.limits_text.script_of.Goals as goal

pub loop-row-preserved : goal.loop-row-preserved
loop-row-preserved c = makers_more c.args.rows.now c.loop-row.row-index c.row-item.result
    c.loop-row.text.items c.put_maker.new.out.items c.loop-row-test.true c.row-item.is c.loop-row.invariant c.in_ok-put_maker.ensures
