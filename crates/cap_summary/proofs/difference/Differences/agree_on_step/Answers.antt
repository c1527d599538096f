use Rattle.cap_summary.specs.{Entry, Keys.cells_of, ◌≡◌}
use Rattle.cap_summary.proofs.{ap}
use Rattle.cap_summary.proofs.difference.Differences.agree_on_step.Goals as goal

pub returns : goal.returns
returns c = λ is s r differ.
    let view = c.view-line.ensures in
    let pid : c.line.inside.pid ≡ c.args.step.now.line.pid =
    ap (λ (e : Entry). e.pid) (rw view at c.line.view_is) in
    let requirement = rw view at c.requirement_of_line-requirement.ensures in
    rw (pid, requirement) at (c.of_line-asks.ensures.same s r (c.agree_on_line.ensures is (cells_of s) (cells_of r) differ))
