use Rattle.cap_rights.proofs.Table.{names_own, names_no_full, names_apart}
use Rattle.cap_rights.proofs.laws.names_are_apart.Goals as goal

pub returns : goal.returns
returns c = record { own = names_own; no_full = names_no_full; apart = names_apart }
