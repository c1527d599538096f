use Rattle.std.proofs.Common.{◌≡◌, ◌++◌, flat_map, take}
use Rattle.cap_machine.specs.Report.{report_line}
use Rattle.cap_session.proofs.report.put_lines.Given as goal

abbrev pub invariant-loop-one : goal.invariant-loop-one
invariant-loop-one l = l.text.items
    ≡ l.fn.text.items ++ flat_map (λ one. l.before ++ report_line l.tree one) (take l.one-index l.found)
