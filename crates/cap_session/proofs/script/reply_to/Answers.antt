use Rattle.std.proofs.Common.{sym, ◌∙◌}
use Rattle.cap_session.proofs.Runs.{answers_long, answers_command}
use Rattle.cap_session.proofs.Performed.{does_command, refuses_command}
use Rattle.cap_session.proofs.script.reply_to.Goals as goal

pub returns-then-line-gt-LONGEST_SCRIPT_LINE-clause-answers : goal.returns-then-line-gt-LONGEST_SCRIPT_LINE-clause-answers
returns-then-line-gt-LONGEST_SCRIPT_LINE-clause-answers c =
    rw (c.refused.ensures, c.code.ensures) (answers_long _ _ _ c.if-line-gt-LONGEST_SCRIPT_LINE.true)

pub returns-in-Ok-clause-answers : goal.returns-in-Ok-clause-answers
returns-in-Ok-clause-answers c =
    answers_command _ _ _ _ _ c.if-line-gt-LONGEST_SCRIPT_LINE.false (sym c.is_skipped.ensures ∙ c.if-is_skipped.false)
    (does_command _ _ _ c.in-Ok.reply _ (rw c.in-Some.ensures at c.in-Ok.ensures.performs))

pub returns-in-Err-clause-answers : goal.returns-in-Err-clause-answers
returns-in-Err-clause-answers c =
    rw (c.refused-in-Err.ensures, c.code-in-Err.ensures)
    (answers_command _ _ _ _ _ c.if-line-gt-LONGEST_SCRIPT_LINE.false (sym c.is_skipped.ensures ∙ c.if-is_skipped.false)
    (refuses_command _ _ _ c.in-Err.refused _ (rw c.in-Some.ensures at c.in-Err.ensures.performs)))
