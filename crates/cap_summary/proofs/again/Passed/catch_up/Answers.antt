use Rattle.cap_summary.proofs.again.Passed.catch_up.Goals as goal

pub loop-self-preserved : goal.loop-self-preserved
loop-self-preserved c = record {
  passed = λ at here so_far. c.in_ok-leave_one.ensures.passed at here (c.loop-self.invariant.passed at here so_far);
}
