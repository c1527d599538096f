use Rattle.cap_machine.proofs.Profiles.{profiles_agree as the_law}
use Rattle.cap_machine.proofs.laws.profiles_agree.Goals as goal

pub returns : goal.returns
returns c = the_law
