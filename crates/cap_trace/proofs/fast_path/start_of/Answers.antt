use Rattle.std.proofs.Common.{arith}
use Rattle.cap_trace.proofs.FastPathLines.{starts}
use Rattle.cap_trace.proofs.fast_path.start_of.Goals as goal

pub returns : goal.returns
returns c = starts c.in_ok-pid.rest.now c.in_ok-name.name.now c.if-bytes-gt-LONGEST_LINE.false c.in_ok-pid.ensures
    (omega (arith, c.if-pid-eq0.false), c.if-pid-gt-LARGEST_PID.false) c.in_ok-name.ensures c.in_ok-head.ensures
