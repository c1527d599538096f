use Rattle.cap_session.proofs.Agree.{good_is_reported as law}
use Rattle.cap_session.proofs.laws.good_is_reported.Goals as goal

pub returns : goal.returns
returns c = law
