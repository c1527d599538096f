use Rattle.cap_rights.proofs.Again.{reads_sets}
use Rattle.cap_rights.proofs.Members.{makes_sets}
use Rattle.cap_rights.proofs.laws.sets_stay_sets.Goals as goal

pub returns : goal.returns
returns c = record { made = makes_sets; read = reads_sets }
