use Rattle.std.proofs.Common.{◌≡◌, ◌++◌, take}
use Rattle.std.specs.Prelude.{flat_map}
use Rattle.cap_machine.specs.Denials.{denied_at}
use Rattle.cap_machine.specs.DenialReport.{denial_line}
use Rattle.cap_machine.proofs.report.put_denials.Given as goal

abbrev pub invariant-loop-denial : goal.invariant-loop-denial
invariant-loop-denial l = l.out.items
    ≡ l.fn.out.items ++ flat_map (λ d. denial_line l.line (denied_at l.fn.at d)) (take l.denial-index l.denials)
