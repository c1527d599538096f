use Rattle.std.proofs.Common.{inl, inr, refl}
use Rattle.cap_session.specs.AnswerStreams.{of_start}
use Rattle.cap_session.proofs.AnswersTrace.{first_rejected, first_taken}
use Rattle.cap_session.proofs.editing.edit_stream_from_as.Goals as goal

pub returns-in-Ok : goal.returns-in-Ok
returns-in-Ok g c = inr (first_taken of_start _ _ _ _ c.in-Ok.known _ c.in-Ok.known c.in-Ok.ensures (λ known is. is)
    c.edit_from.ensures)

pub returns-in-Err : goal.returns-in-Err
returns-in-Err g c = inl (
  first_rejected of_start _ _ _ _ _ _ _ c.in-Err.stop _ c.in-Err.ensures c.write_stop.ensures,
  refl,
)
