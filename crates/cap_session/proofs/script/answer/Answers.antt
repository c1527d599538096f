use Rattle.std.proofs.lemmas.Result.{on_ok_weaker, on_err_weaker}
use Rattle.cap_session.proofs.Runs.{one_line, one_broken}
use Rattle.cap_session.proofs.script.answer.Goals as goal

pub returns-clause-ok : goal.returns-clause-ok
returns-clause-ok g c =
    on_ok_weaker _ (λ wrote. one_line _ _ _ _ _ _ _ c.reply_to-reply.ensures.answers wrote)
    (rw c.as_slice.ensures at c.write_text.ensures.ok)

pub returns-clause-err : goal.returns-clause-err
returns-clause-err g c =
    on_err_weaker _ (λ wrote. one_broken _ _ _ _ _ _ _ c.reply_to-reply.ensures.answers wrote)
    (rw c.as_slice.ensures at c.write_text.ensures.err)
