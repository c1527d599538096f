use Rattle.cap_trace.proofs.Rewritten.{only_rights}
use Rattle.cap_trace.proofs.laws.only_rights_are_rewritten.Goals as goal

pub returns : goal.returns
returns c = only_rights
