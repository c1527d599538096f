use Rattle.cap_limits.proofs.LimitPlaces.{all_limits_are_enough as the_law}
use Rattle.cap_limits.proofs.limit_laws.all_limits_are_enough.Goals as goal

pub returns : goal.returns
returns c = the_law
