use Rattle.std.proofs.lemmas.Result.{err_from_is_err_and}
use Rattle.cap_session.specs.StartTexts.{Listed, none_listed, next_process, start_so_far}
use Rattle.cap_session.specs.Code.StartLines.{Holds}
use Rattle.cap_session.specs.Texts.{whole_text}
use Rattle.cap_session.specs.declared.start_text.StartParser.{StartParser}
use Rattle.cap_session.proofs.StartReads.{stopped_as, start_kept}
use Rattle.cap_session.proofs.start_text.read_start.Goals as goal

pub returns-in_err-starting : goal.returns-in_err-starting
returns-in_err-starting g c =
    let p = err_from_is_err_and c.from_residual.result c.from_residual.ensures.1 in
    rw (p.1, p.2) (stopped_as (λ (listed : Listed). listed.added) (whole_text next_process none_listed) start_so_far _ _
    c.args.turns _ _ _ (c.in_err-starting.ensures none_listed c.new.ensures))

pub returns : goal.returns
returns g c =
    rw c.ok_or.ensures.value (start_kept (λ (s : StartParser). Holds s.kept) c.args.turns _ _ c.in_ok-starting.starting
    c.in_ok-starting.starting.kept (λ known has. has) (c.in_ok-starting.ensures none_listed c.new.ensures))
