use Rattle.std.proofs.Common.{◌≡◌, ◌++◌, length}
use Rattle.cap_trace.specs.Quotes.{pieces}
use Rattle.cap_trace.specs.Views.{fds_in}
use Rattle.cap_trace.proofs.parts.fds_of.Given as goal

abbrev pub invariant-loop-next : goal.invariant-loop-next
invariant-loop-next l = l.fds.items ++ fds_in l.parts ≡ fds_in (pieces l.fn.spelled)

abbrev pub decreases-loop-next : goal.decreases-loop-next
decreases-loop-next l = length l.parts
