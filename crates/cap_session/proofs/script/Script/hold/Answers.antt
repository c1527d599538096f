use Rattle.std.proofs.Common.{◌<◌, ◌≤◌, length, take, ◌++◌, arith}
use Rattle.std.proofs.lemmas.Result.{on_ok_weaker, on_err_weaker}
use Rattle.cap_session.proofs.Runs.{due_piece_was_long, due_piece_short, due_piece_long, replied_none, replied_cut}
use Rattle.cap_session.proofs.Runs.{broken_cut}
use Rattle.cap_session.proofs.script.Script.hold.Goals as goal
use Rattle.cap_session.proofs.script.Script.hold.Goals.{then-was_long-via-then-was_long}
use Rattle.cap_session.proofs.script.Script.hold.Goals.{then-was_long-via-else-was_long+then-len-le-LONGEST_SCRIPT_LINE}

pub returns-then-was_long-clause-ok : goal.returns-then-was_long-clause-ok
returns-then-was_long-clause-ok g c =
    let s = c.self.inside in
    elim c.then-was_long.branch [
      | then-was_long-via-then-was_long w ↦
          let long : 1056 < length s.held = grind arith in
          rw (← c.self.view_is, due_piece_was_long s.held c.args.bytes.now long) (replied_none _ _ _)
      | then-was_long-via-else-was_long+then-len-le-LONGEST_SCRIPT_LINE w ↦
          let short : length (take 1057 (s.held ++ c.args.bytes.now)) ≤ 1056 =
          rw (← c.add_front.ensures) (omega arith) in
          rw (← c.self.view_is, due_piece_short s.held c.args.bytes.now short) (replied_none _ _ _)
    ]

pub returns-clause-ok : goal.returns-clause-ok
returns-clause-ok g c =
    let s = c.self.inside in
    let short : length s.held ≤ 1056 = grind arith in
    let long : 1056 < length (take 1057 (s.held ++ c.args.bytes.now)) = rw (← c.add_front.ensures) (omega arith) in
    rw (← c.self.view_is, due_piece_long s.held c.args.bytes.now short long)
    (on_ok_weaker c.answer.result (λ done. replied_cut _ _ _ _ _ _ done)
    (rw (c.as_slice.ensures, c.add_front.ensures) at c.answer.ensures.ok))

pub returns-clause-err : goal.returns-clause-err
returns-clause-err g c =
    let s = c.self.inside in
    let short : length s.held ≤ 1056 = grind arith in
    let long : 1056 < length (take 1057 (s.held ++ c.args.bytes.now)) = rw (← c.add_front.ensures) (omega arith) in
    rw (← c.self.view_is, due_piece_long s.held c.args.bytes.now short long)
    (on_err_weaker c.answer.result (λ done. broken_cut _ _ _ _ _ done)
    (rw (c.as_slice.ensures, c.add_front.ensures) at c.answer.ensures.err))
