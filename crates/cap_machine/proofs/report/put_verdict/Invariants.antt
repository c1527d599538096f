use Rattle.std.proofs.Common.{◌≡◌, ◌++◌, take}
use Rattle.std.specs.Prelude.{flat_map}
use Rattle.cap_machine.specs.Check.{found_at}
use Rattle.cap_machine.specs.Report.{finding_line}
use Rattle.cap_machine.proofs.report.put_verdict.Given as goal

abbrev pub invariant-loop-finding : goal.invariant-loop-finding
invariant-loop-finding l = l.out.items
    ≡ l.fn.out.items ++ flat_map (λ f. finding_line l.line (found_at l.fn.at f)) (take l.finding-index l.verdict)
