use Rattle.cap_session.proofs.Agree.{pieces_agree as law}
use Rattle.cap_session.proofs.laws.pieces_agree.Goals as goal

pub returns : goal.returns
returns c = law
