use Rattle.std.proofs.Common.{◌≤◌, length, arith}
use Rattle.std.proofs.lemmas.Result.{on_ok_weaker, on_err_weaker}
use Rattle.cap_session.proofs.Runs.{due_line_short, replied_cut, broken_cut}
use Rattle.cap_session.proofs.script.Script.line.Goals as goal

pub returns-clause-ok : goal.returns-clause-ok
returns-clause-ok g c =
    let s = c.self.inside in
    let short : length s.held ≤ 1056 = grind arith in
    rw (← c.self.view_is, due_line_short s.held c.args.bytes.now short)
    (on_ok_weaker c.answer-answered.result (λ done. replied_cut _ _ _ _ _ _ done)
    (rw (c.as_slice.ensures, c.add_front.ensures) at c.answer-answered.ensures.ok))

pub returns-clause-err : goal.returns-clause-err
returns-clause-err g c =
    let s = c.self.inside in
    let short : length s.held ≤ 1056 = grind arith in
    rw (← c.self.view_is, due_line_short s.held c.args.bytes.now short)
    (on_err_weaker c.answer-answered.result (λ done. broken_cut _ _ _ _ _ done)
    (rw (c.as_slice.ensures, c.add_front.ensures) at c.answer-answered.ensures.err))
