use Rattle.cap_session.proofs.LimitTexts.{made_put}
use Rattle.cap_session.proofs.limits_text.put_made.Goals as goal

pub returns : goal.returns
returns c = made_put c.args.limit.now c.from.result c.from-2.result _ _ _ _ _ c.from.ensures c.from-2.ensures
    c.in_ok-put_between.ensures c.in_ok-put_number.ensures.ok c.in_ok-extend_from_slice.ensures.items
    c.in_ok-put_number-2.ensures.ok
