use Rattle.cap_summary.proofs.difference.Differences.taken.Goals as goal

pub returns-in-Earlier : goal.returns-in-Earlier
returns-in-Earlier c = λ old differ. rw c.in-Earlier.is (c.was.ensures old differ)
