use Rattle.cap_session.proofs.Accepted.{no_edit_asks_for_memory}
use Rattle.cap_session.proofs.edit.no_edit_asks_for_memory.Goals as goal

pub returns : goal.returns
returns c = no_edit_asks_for_memory
