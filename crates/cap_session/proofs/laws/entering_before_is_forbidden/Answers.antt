use Rattle.cap_session.proofs.LimitsBeforeLaws.{entering_before_is_forbidden as law}
use Rattle.cap_session.proofs.laws.entering_before_is_forbidden.Goals as goal

pub returns : goal.returns
returns c = law
