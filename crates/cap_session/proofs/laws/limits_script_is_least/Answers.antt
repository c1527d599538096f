use Rattle.cap_session.proofs.LimitsBeforeLaws.{limits_before_are_least}
use Rattle.cap_session.proofs.MakerLimitsLaws.{maker_limits_are_least}
use Rattle.cap_session.proofs.laws.limits_script_is_least.Goals as goal

pub returns : goal.returns
returns c = record { before = limits_before_are_least; makers = maker_limits_are_least }
