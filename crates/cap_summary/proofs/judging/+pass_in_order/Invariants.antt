use Rattle.std.proofs.Common.{length}
use Rattle.cap_summary.proofs.judging.+pass_in_order.Given as goal

abbrev pub decreases-pass_in_order : goal.decreases-pass_in_order
decreases-pass_in_order l = length l.run.now
