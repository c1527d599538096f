use Rattle.std.proofs.Common.{◌≡◌, length}
use Rattle.std.specs.Prelude.{◌==◌}
use Rattle.std.specs.List.{list_any}
use Rattle.cap_trace.specs.Quotes.{pieces}
use Rattle.cap_trace.specs.Views.{fds_in}
use Rattle.cap_trace.proofs.parts.has_fd.Given as goal

abbrev pub invariant-loop-next : goal.invariant-loop-next
invariant-loop-next l = list_any (λ g. l.fn.fd == g) (fds_in l.parts) ≡ list_any (λ g. l.fn.fd == g) (fds_in (pieces l.fn.spelled))

abbrev pub decreases-loop-next : goal.decreases-loop-next
decreases-loop-next l = length l.parts
