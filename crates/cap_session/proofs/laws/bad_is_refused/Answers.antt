use Rattle.cap_session.proofs.Agree.{bad_is_refused as law}
use Rattle.cap_session.proofs.laws.bad_is_refused.Goals as goal

pub returns : goal.returns
returns c = law
