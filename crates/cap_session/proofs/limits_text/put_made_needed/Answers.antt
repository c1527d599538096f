use Rattle.cap_session.proofs.LimitTexts.{made_needed_put}
use Rattle.cap_session.proofs.limits_text.put_made_needed.Goals as goal

pub returns : goal.returns
returns c = made_needed_put c.args.limit.now _ _ _ _ _ c.in_ok-put_made.ensures c.in_ok-extend_from_slice.ensures.items
    c.in_ok-write_rights.ensures.ok c.in_ok-extend_from_slice-2.ensures.items
