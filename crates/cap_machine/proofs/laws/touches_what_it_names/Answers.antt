use Rattle.cap_machine.proofs.Naming.{own_processes, own_modes, named_descriptors}
use Rattle.cap_machine.proofs.NamedFds.{named_sources}
use Rattle.cap_machine.proofs.laws.touches_what_it_names.Goals as goal

pub returns-clause-processes : goal.returns-clause-processes
returns-clause-processes c = own_processes

pub returns-clause-modes : goal.returns-clause-modes
returns-clause-modes c = own_modes

pub returns-clause-descriptors : goal.returns-clause-descriptors
returns-clause-descriptors c = named_descriptors

pub returns-clause-sources : goal.returns-clause-sources
returns-clause-sources c = named_sources
