use Rattle.cap_session.proofs.Explains.{explains_what_is_reported as law}
use Rattle.cap_session.proofs.laws.explains_what_is_reported.Goals as goal

pub returns : goal.returns
returns c = law
