use Rattle.std.proofs.Common.{length}
use Rattle.cap_session.specs.Code.StartLines.{Follows}
use Rattle.cap_session.proofs.Started.{Through}
use Rattle.cap_session.proofs.start_text.StartParser.text.Given as goal

abbrev pub invariant-loop-line : goal.invariant-loop-line
invariant-loop-line l = Through (Follows l.self.kept l.self.low) l.fn.bytes l.before l.ends

abbrev pub decreases-loop-line : goal.decreases-loop-line
decreases-loop-line l = length l.ends
