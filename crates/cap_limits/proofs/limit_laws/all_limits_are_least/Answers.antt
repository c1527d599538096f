use Rattle.cap_limits.proofs.LimitPlaces.{all_limits_are_least as the_law}
use Rattle.cap_limits.proofs.limit_laws.all_limits_are_least.Goals as goal

pub returns : goal.returns
returns c = the_law
