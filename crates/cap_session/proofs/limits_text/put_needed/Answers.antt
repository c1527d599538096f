use Rattle.cap_limits.specs.Limits.{row_of}
use Rattle.cap_session.proofs.LimitTexts.{needed_put}
use Rattle.cap_session.proofs.limits_text.put_needed.Goals as goal

pub returns : goal.returns
returns c = needed_put (row_of c.args.limit.now) c.from.result _ _ _ _ c.from.ensures c.in_ok-put_between.ensures
    c.in_ok-write_rights.ensures.ok c.in_ok-extend_from_slice.ensures.items
