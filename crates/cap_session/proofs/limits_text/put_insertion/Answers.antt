use Rattle.cap_session.proofs.LimitTexts.{insertion_put}
use Rattle.cap_session.proofs.limits_text.put_insertion.Goals as goal

pub returns : goal.returns
returns c = insertion_put c.args.at c.args.pid c.args.fd c.args.rights.now c.from.result _ _ _ _ _ c.from.ensures
    c.in_ok-put_insert.ensures c.in_ok-put_between.ensures c.in_ok-write_rights.ensures.ok
    c.in_ok-extend_from_slice.ensures.items
