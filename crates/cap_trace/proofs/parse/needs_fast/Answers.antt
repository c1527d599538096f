use Rattle.cap_trace.proofs.FastPathLines.{spelled_line, read_so}
use Rattle.cap_trace.proofs.parse.needs_fast.Goals as goal

pub invariant_of-result : goal.invariant_of-result
invariant_of-result c = (c.requires.0, spelled_line c.requires.1 c.in-Some.ensures)

pub returns-in-Some : goal.returns-in-Some
returns-in-Some c = λ bytes starts. read_so starts c.in-Some.ensures
