use Rattle.cap_summary.specs.{Effects.state_before, Keys.cells_of}
use Rattle.cap_summary.proofs.difference.Differences.was.Goals as goal

pub returns-in-Some : goal.returns-in-Some
returns-in-Some c = λ old differ. (c.in-Some.ensures.some old (cells_of (state_before c.args.before.now)) differ).0
