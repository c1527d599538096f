use Rattle.std.proofs.Common.{◌∙◌, List, ap, refl, inl}
use Rattle.cap_machine.specs.declared.cell.Profile.{Profile}
use Rattle.cap_machine.specs.declared.question.Question.TheVariants.{Findings}
use Rattle.cap_machine.specs.State.{Added, usual}
use Rattle.cap_session.specs.AnswerStreams.{of_trace}
use Rattle.cap_session.specs.Code.Traced.{Inquiry}
use Rattle.cap_session.specs.declared.session.Setting.{Setting}
use Rattle.cap_session.proofs.AnswersTrace.{nothing_read, not_loaded, first_rejected}
use Rattle.cap_session.proofs.Rejecting.{script_taken}
use Rattle.cap_session.proofs.editing.edit_from.Goals as goal

abbrev under : Profile → Inquiry
under profile = record { question = Findings; profile = profile; start = usual }

abbrev from : List Added → Profile → Setting
from start profile = record { profile = profile; start = start }

pub returns-in-Ok-session : goal.returns-in-Ok-session
returns-in-Ok-session g c =
    let session = c.in-Ok-session.session in
    script_taken _ _ _ _ _ _ _ _ _ c.in-Ok-read_trace.loading session.setting session.trace _
    (c.in-Ok-read_trace.ensures (under c.args.profile) c.new-empty.ensures)
    (λ known is. (c.in-Ok-session.ensures.setting ∙ ap (from c.args.start) is.0, c.in-Ok-session.ensures.trace ∙ is.1))
    (rw c.in-Ok-session.ensures.base at c.edit_loaded.ensures)

pub returns-in-Err : goal.returns-in-Err
returns-in-Err g c = inl (first_rejected of_trace _ _ _ _ _ _ _ c.in-Err.stop _
    (c.in-Err.ensures (under c.args.profile) c.new-empty.ensures) c.write_stop.ensures)

pub returns-in_default : goal.returns-in_default
returns-in_default g c = inl (record { stopped = nothing_read _ _ _ _; unread = refl })

pub returns-in_default-new : goal.returns-in_default-new
returns-in_default-new g c = inl (record { stopped = nothing_read _ _ _ _; unread = refl })

pub returns-in_default-session : goal.returns-in_default-session
returns-in_default-session g c = inl (not_loaded _ _ _ _ _ _ c.in-Ok-read_trace.loading
    (c.in-Ok-read_trace.ensures (under c.args.profile) c.new-empty.ensures))
