use Rattle.cap_session.proofs.LimitAccepted.{limits_before_are_accepted, maker_limits_are_accepted}
use Rattle.cap_session.proofs.laws.limits_script_is_accepted.Goals as goal

pub returns : goal.returns
returns c = record { before = limits_before_are_accepted; makers = maker_limits_are_accepted }
