use Rattle.cap_session.proofs.Accepted.{inserted_stands}
use Rattle.cap_session.proofs.edit.inserted_stands.Goals as goal

pub returns : goal.returns
returns c = inserted_stands
