use Rattle.cap_summary.specs.{Keys.cells_of, applied, exec, refl}
use Rattle.cap_summary.proofs.{Agreed.agree_seen, arith, common_steps}
use Rattle.cap_summary.proofs.ask.Ask.through.Goals as goal

pub returns-clause-names : goal.returns-clause-names
returns-clause-names c = λ names row own.
    let seen = c.view.ensures.names names own row in
    c.settled.ensures.names names (elim c.match-view.branch [
      | goal.in-Same w ↦ rw w.pid-is (rw w.in-Same.is at seen)
      | goal.in-Executed w ↦ rw w.pid-is (rw w.in-Executed.is at seen)
      | goal.in-Made w ↦ rw w.pid-is (rw w.in-Made.is at seen)
    ])

pub returns-then-passes-clause-holds : goal.returns-then-passes-clause-holds
returns-then-passes-clause-holds c = grind (arith, common_steps)

pub returns-else-passes-clause-holds : goal.returns-else-passes-clause-holds
returns-else-passes-clause-holds c = grind (arith, common_steps)

pub returns-clause-agree : goal.returns-clause-agree
returns-clause-agree c = λ s r is.
    let ask = c.args.self.now in
    let one = c.settled.ensures.agree s r is in
    rw (← c.view.ensures.cells (cells_of s), ← c.view.ensures.cells (cells_of r)) (elim c.match-view.branch [
      | goal.in-Same w ↦ agree_seen ask _ c.view.result (λ cell. cell) (λ cells. rw w.in-Same.is refl) (λ cell. refl)
          (cells_of s) (cells_of r) (rw w.pid-is at one)
      | goal.in-Executed w ↦ agree_seen ask _ c.view.result (applied exec) (λ cells. rw w.in-Executed.is refl)
          (rw w.exec.ensures at w.before_op.ensures.passes) (cells_of s) (cells_of r) (rw w.pid-is at one)
      | goal.in-Made w ↦ agree_seen ask _ c.view.result (applied w.in-Made.op.now) (λ cells. rw w.in-Made.is refl)
          (rw w.get.ensures at w.before_op-in-Made.ensures.passes) (cells_of s) (cells_of r) (rw w.pid-is at one)
    ])
