use Rattle.cap_summary.specs.{Entry, ◌≡◌}
use Rattle.cap_summary.proofs.{ap}
use Rattle.cap_summary.proofs.again.said_of.Goals as goal

pub returns : goal.returns
returns c =
    let view = c.view-line.ensures in
    let pid : c.line.inside.pid ≡ c.args.step.now.line.pid =
    ap (λ (e : Entry). e.pid) (rw view at c.line.view_is) in
    let requirement = rw view at c.requirement_of_line-requirement.ensures in
    rw (pid, requirement) at c.said.ensures
