use Rattle.cap_session.proofs.Accepted.{accepted_edits_give}
use Rattle.cap_session.proofs.edit.accepted_edits_give.Goals as goal

pub returns : goal.returns
returns c = accepted_edits_give
