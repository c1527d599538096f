use Rattle.std.proofs.lemmas.Result.{err_from_is_err_and}
use Rattle.cap_session.proofs.Texted.{goes_nowhere, text_begins, text_stopped, text_read}
use Rattle.cap_session.proofs.read.read_text.Goals as goal

pub returns-in_default : goal.returns-in_default
returns-in_default g c = goes_nowhere g.L.Lines.next (g.L.Lines.follows c.args.lines) g.L.Lines.holds c.args.turns _

pub returns-in_default-new : goal.returns-in_default-new
returns-in_default-new g c = goes_nowhere g.L.Lines.next (g.L.Lines.follows c.args.lines) g.L.Lines.holds c.args.turns _

pub read_chunks-requires-clause-begins : goal.read_chunks-requires-clause-begins
read_chunks-requires-clause-begins g c = rw (c.in-Ok-new.ensures.number, c.in-Ok-new.ensures.held)
    (text_begins g.L.Lines.next (g.L.Lines.follows c.in-Ok-new.reading.lines))

pub returns-in_err-read_chunks : goal.returns-in_err-read_chunks
returns-in_err-read_chunks g c =
    let p = err_from_is_err_and c.from_residual.result c.from_residual.ensures.1 in
    rw (p.1, p.2)
    (text_stopped g.L.Lines.next (g.L.Lines.follows c.args.lines) (g.L.Lines.follows c.read_chunks.new.taker.lines)
    g.L.Lines.holds c.args.turns _ _ c.read_chunks.new.taker.number c.read_chunks.new.taker.held
    (g.L.Lines.holds c.read_chunks.new.taker.lines) _
    (rw c.in-Ok-new.ensures.lines at c.in_err-read_chunks.ensures))

pub returns : goal.returns
returns g c =
    text_read g.L.Lines.next (g.L.Lines.follows c.args.lines) (g.L.Lines.follows c.read_chunks.new.taker.lines)
    g.L.Lines.holds c.args.turns _ _ c.read_chunks.new.taker.number c.read_chunks.new.taker.held
    c.read_chunks.new.taker.lines (g.L.Lines.holds c.read_chunks.new.taker.lines) _ (λ known has. has)
    (rw c.in-Ok-new.ensures.lines at c.in_ok-read_chunks.ensures)
