use Rattle.cap_session.proofs.Goes.{Goes}
use Rattle.cap_session.proofs.read.read_chunks.Given as goal

abbrev pub invariant-loop-turn : goal.invariant-loop-turn
invariant-loop-turn g l = Goes (g.T.ChunkHandler.took l.fn.taker l.fn.output l.taker l.output)
    (g.T.ChunkHandler.fits l.taker l.output) (g.R.Source.state l.fn.reader) (g.R.Source.state l.reader) l.turns l._turn
