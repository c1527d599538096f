use Rattle.cap_summary.specs.{length}
use Rattle.cap_summary.proofs.judging.+judge_in_order.Given as goal

abbrev pub decreases-judge_in_order : goal.decreases-judge_in_order
decreases-judge_in_order l = length l.run.now
