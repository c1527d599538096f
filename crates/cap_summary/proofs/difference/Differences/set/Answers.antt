use Rattle.cap_summary.specs.{Effects.state_before, Keys.cells_of, refl}
use Rattle.cap_summary.proofs.{sym}
use Rattle.cap_summary.proofs.difference.Differences.set.Goals as goal

pub returns-in-Earlier : goal.returns-in-Earlier
returns-in-Earlier c = λ old after differ at.
    let new = cells_of (state_before c.args.before.now) in
    rw c.in-Earlier.is (c.put.ensures old new after new differ (rw c.in-Earlier.is at at)
    (record { here = sym c.read-now.ensures; others = λ p k is. refl }))

pub returns-in-Present : goal.returns-in-Present
returns-in-Present c = λ old after differ at.
    let new = cells_of (state_before c.args.before.now) in
    rw c.in-Present.is (c.put-in-Present.ensures old new old after differ
    (record { here = c.was-was.ensures old differ; others = λ p k is. refl }) (rw c.in-Present.is at at))
