use Rattle.cap_session.proofs.LimitTexts.{entry_put}
use Rattle.cap_session.proofs.limits_text.put_entry.Goals as goal

pub returns : goal.returns
returns c = entry_put c.args.at c.args.pid _ _ _ c.in_ok-put_insert.ensures c.in_ok-extend_from_slice.ensures.items
