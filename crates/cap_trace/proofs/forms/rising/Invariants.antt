use Rattle.std.proofs.Common.{◌≡◌, length}
use Rattle.cap_trace.specs.Quotes.{pieces}
use Rattle.cap_trace.specs.Reading.{fds_from}
use Rattle.cap_trace.proofs.Rising.{failure}
use Rattle.cap_trace.proofs.forms.rising.Given as goal

abbrev pub invariant-loop-next : goal.invariant-loop-next
invariant-loop-next l = failure (fds_from l.low l.parts) ≡ failure (fds_from 0 (pieces l.fn.args))

abbrev pub decreases-loop-next : goal.decreases-loop-next
decreases-loop-next l = length l.parts
