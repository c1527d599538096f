use Rattle.std.proofs.lemmas.Result.{err_from_is_err_and}
use Rattle.cap_session.proofs.Reach.{finishes_badly}
use Rattle.cap_session.proofs.lines.LineReader.end.Goals as goal

pub returns-in_err-finish : goal.returns-in_err-finish
returns-in_err-finish g c = λ start given r.
    let p = err_from_is_err_and c.from_residual.result c.from_residual.ensures.1 in
    rw (p.1, p.2) (finishes_badly (Unit {0}) (Unit {0}) g.L.Lines.next start (g.L.Lines.follows c.finish.new.self.lines)
    (g.L.Lines.holds c.finish.new.self.lines) given _ (c.in_err-finish.ensures start given r))

pub returns-then-is_out_of_memory : goal.returns-then-is_out_of_memory
returns-then-is_out_of_memory g c = λ start given r.
    let done = c.in_ok-finish.ensures start given r in
    (done.0, done.1)

pub returns : goal.returns
returns g c = λ start given r.
    let done = c.in_ok-finish.ensures start given r in
    (done.0, done.1, c.if-is_out_of_memory.ensures done.0 done.2)
