use Rattle.std.proofs.Common.{◌≡◌, ◌++◌, take}
use Rattle.cap_session.specs.Explaining.{finding_lines}
use Rattle.cap_session.proofs.explained.put_findings.Given as goal

abbrev pub invariant-loop-finding : goal.invariant-loop-finding
invariant-loop-finding l = l.out.items ≡ l.fn.out.items ++ finding_lines (take l.finding-index l.verdict)
