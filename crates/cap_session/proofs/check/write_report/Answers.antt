use Rattle.std.proofs.Common.{◌∙◌}
use Rattle.cap_session.specs.Streams.{asked_says}
use Rattle.cap_session.proofs.AnswersTrace.{answer_written}
use Rattle.cap_session.proofs.Answering.{found_asked}
use Rattle.cap_session.proofs.check.write_report.Goals as goal

pub returns-in-Ok : goal.returns-in-Ok
returns-in-Ok g c = λ question profile s entries asked.
    let is = c.as_slice.ensures.value ∙ c.in-Ok.ensures question profile s entries asked in
    answer_written (asked_says question profile s entries) c.as_slice.result.now c.is_clean-is_clean.result _ _ _
    c.write_ending.result c.found.ensures (found_asked question profile s entries _ c.is_clean-is_clean.result is
    (c.is_clean-is_clean.ensures question profile s entries asked)) c.write_ending.ensures
