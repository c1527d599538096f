use Rattle.cap_session.proofs.Agree.{beginning_decides as law}
use Rattle.cap_session.proofs.laws.beginning_decides.Goals as goal

pub returns : goal.returns
returns c = law
