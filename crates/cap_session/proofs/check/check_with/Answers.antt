use Rattle.cap_session.specs.AnswerStreams.{of_trace}
use Rattle.cap_session.specs.Streams.{asked_says}
use Rattle.cap_session.specs.declared.outcome.ExplainOutcome.TheVariants.{Ended}
use Rattle.cap_session.proofs.AnswersTrace.{answered, answer_stopped}
use Rattle.cap_session.proofs.check.check_with.Goals as goal

pub returns-in-Ok : goal.returns-in-Ok
returns-in-Ok g c = λ question profile s begins.
    let r = c.in-Ok.ensures (record { question = question; profile = profile; start = s }) begins in
    answered (asked_says question profile s) _ _ _ _ _ _ _ r (Ended c.write_report.result)
    (c.write_report.ensures question profile s r.answer.1.0 r.answer.1.2)

pub returns-in-Err : goal.returns-in-Err
returns-in-Err g c = λ question profile s begins.
    answer_stopped of_trace (asked_says question profile s) _ _ _ _ _ _ c.in-Err.stop _
    (c.in-Err.ensures (record { question = question; profile = profile; start = s }) begins) c.write_stop.ensures
