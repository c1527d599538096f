use Rattle.std.proofs.Common.{length}
use Rattle.cap_session.proofs.Fed.{Fed}
use Rattle.cap_session.proofs.lines.LineReader.feed.Given as goal

abbrev pub invariant-loop-line : goal.invariant-loop-line
invariant-loop-line g l = Fed g.L.Lines.next (g.L.Lines.follows l.fn.self.lines)
    (g.L.Lines.follows l.self.lines) l.fn.self.number l.fn.self.held l.fn.piece l.self.number l.self.held l.ends

abbrev pub decreases-loop-line : goal.decreases-loop-line
decreases-loop-line g l = length l.ends
