use Rattle.std.proofs.Common.{◌≡◌, ◌∙◌}
use Rattle.std.proofs.lemmas.Result.{err_from_is_err_and, on_ok_weaker, on_err_weaker}
use Rattle.cap_session.proofs.Runs.{scripted_on, scripted_broken, scripted_last, scripted_last_broken, scripted_held}
use Rattle.cap_session.proofs.script.Script.feed.Goals as goal

pub returns-in_err-line-clause-err : goal.returns-in_err-line-clause-err
returns-in_err-line-clause-err g c =
    let p = err_from_is_err_and c.from_residual.result c.from_residual.ensures.1 in
    rw p.1 (scripted_broken _ _ _ _ _ _ _ c.in-Some.line.now _ c.loop-line.invariant c.in-Some.ensures
    c.in_err-line.ensures.err)

pub loop-line-preserved : goal.loop-line-preserved
loop-line-preserved g c = scripted_on _ _ _ _ _ _ _ _ c.in-Some.line.now _ c.loop-line.invariant c.in-Some.ensures
    c.in_ok-line.ensures.ok c.in_ok-line.ensures.setting c.in_ok-line.ensures.held

pub returns-clause-ok : goal.returns-clause-ok
returns-clause-ok g c =
    let rest : c.rest.result.now ≡ c.loop-line.ends = c.rest.ensures ∙ c.in_default.ensures.1 in
    on_ok_weaker c.hold.result
    (λ done. scripted_last _ _ c.hold.new.self _ _ _ _ _ c.loop-line.invariant c.in_default.ensures.0
    (rw rest at done))
    c.hold.ensures.ok

pub returns-clause-held : goal.returns-clause-held
returns-clause-held g c =
    let rest : c.rest.result.now ≡ c.loop-line.ends = c.rest.ensures ∙ c.in_default.ensures.1 in
    on_ok_weaker c.hold.result
    (λ is. scripted_held _ _ c.hold.new.self _ _ _ _ c.loop-line.invariant c.in_default.ensures.0 (rw rest at is))
    c.hold.ensures.held

pub returns-clause-err : goal.returns-clause-err
returns-clause-err g c =
    let rest : c.rest.result.now ≡ c.loop-line.ends = c.rest.ensures ∙ c.in_default.ensures.1 in
    on_err_weaker c.hold.result
    (λ broke. scripted_last_broken _ _ _ _ _ _ _ c.loop-line.invariant c.in_default.ensures.0 (rw rest at broke))
    c.hold.ensures.err
