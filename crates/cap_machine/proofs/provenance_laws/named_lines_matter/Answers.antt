use Rattle.cap_machine.proofs.CellChains.{unnamed_leaves, named_changes}
use Rattle.cap_machine.proofs.provenance_laws.named_lines_matter.Goals as goal

pub returns-clause-left_out : goal.returns-clause-left_out
returns-clause-left_out c = unnamed_leaves

pub returns-clause-named : goal.returns-clause-named
returns-clause-named c = named_changes
