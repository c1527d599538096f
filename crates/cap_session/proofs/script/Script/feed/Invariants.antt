use Rattle.std.proofs.Common.{length}
use Rattle.cap_session.proofs.Runs.{Scripted}
use Rattle.cap_session.proofs.script.Script.feed.Given as goal

abbrev pub invariant-loop-line : goal.invariant-loop-line
invariant-loop-line g l =
    Scripted l.fn.self (g.W.Sink.state l.fn.writer) l.fn.piece l.self (g.W.Sink.state l.writer) l.ends

abbrev pub decreases-loop-line : goal.decreases-loop-line
decreases-loop-line g l = length l.ends
