use Rattle.cap_session.proofs.LimitTexts.{begins_put}
use Rattle.cap_session.proofs.limits_text.put_beginning.Goals as goal

pub returns : goal.returns
returns c = begins_put c.args.pid c.args.at c.from.result _ _ _ _ c.from.ensures c.in_ok-put_between.ensures
    c.in_ok-put_number.ensures.ok c.in_ok-extend_from_slice.ensures.items
