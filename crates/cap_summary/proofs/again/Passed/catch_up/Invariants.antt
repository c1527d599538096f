use Rattle.std.specs.Prelude.{ℕ, ◌-◌}
use Rattle.cap_summary.specs.Again.{IsHere, IsPassed}
use Rattle.cap_summary.proofs.again.Passed.catch_up.Given as goal

abbrev pub invariant-loop-self : goal.invariant-loop-self
invariant-loop-self l = record {
  passed : (at : ℕ) → IsHere l.again l.before at → IsPassed l.again l.initial.self at → IsPassed l.again l.self at;
}

abbrev pub decreases-loop-self : goal.decreases-loop-self
decreases-loop-self l = l.to - l.self.was
