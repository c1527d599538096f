use Rattle.std.proofs.Common.{length}
use Rattle.cap_session.proofs.Calls.{Writing}
use Rattle.capcheck.proofs.write.write_text.Given as goal

abbrev pub invariant-loop-rest : goal.invariant-loop-rest
invariant-loop-rest g l = Writing (g.W.Sink.state l.fn.writer) (g.W.Sink.state l.writer) l.fn.text l.rest

abbrev pub decreases-loop-rest : goal.decreases-loop-rest
decreases-loop-rest g l = length l.rest
