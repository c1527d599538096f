use Rattle.std.proofs.Common.{length}
use Rattle.cap_limits_tests.proofs.limits.passed.Given as goal

abbrev pub decreases-loop-line : goal.decreases-loop-line
decreases-loop-line l = length l.rest
