use Rattle.cap_session.proofs.LimitsBeforeLaws.{limits_before_are_enough}
use Rattle.cap_session.proofs.MakerLimitsLaws.{maker_limits_are_enough}
use Rattle.cap_session.proofs.laws.limits_script_is_enough.Goals as goal

pub returns : goal.returns
returns c = record { before = limits_before_are_enough; makers = maker_limits_are_enough }
