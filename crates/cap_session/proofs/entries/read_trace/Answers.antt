use Rattle.std.proofs.Common.{[]}
use Rattle.std.proofs.lemmas.Result.{err_from_is_err_and}
use Rattle.cap_session.proofs.Traces.{read_stopped, read_kept}
use Rattle.cap_session.proofs.entries.read_trace.Goals as goal

pub returns-in_err-entries : goal.returns-in_err-entries
returns-in_err-entries g c = λ s begins.
    let p = err_from_is_err_and c.from_residual.result c.from_residual.ensures.1 in
    rw (p.1, p.2) (read_stopped _ (λ k entries. g.K.TraceSink.keeps k s entries) s c.args.turns _ _ _
    (c.in_err-entries.ensures (record { inquiry = s; entries = [] }) begins))

pub returns : goal.returns
returns g c = λ s begins.
    rw c.ok_or.ensures.value
    (read_kept _ g.K.TraceSink.keeps s c.args.turns _ _ c.in_ok-entries.entries c.in_ok-entries.entries.kept
    (λ known has. has) (c.in_ok-entries.ensures (record { inquiry = s; entries = [] }) begins))
