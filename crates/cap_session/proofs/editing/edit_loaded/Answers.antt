use Rattle.std.proofs.Common.{◌≡◌, List, ap, subst, ◌∙◌}
use Rattle.cap_trace.specs.Entry.{Entry}
use Rattle.cap_session.specs.declared.session.Setting.{Setting}
use Rattle.cap_session.specs.Scripts.{Scripting}
use Rattle.cap_session.specs.EditStreams.{IsOutcome}
use Rattle.cap_session.proofs.Rejecting.{replied, stopped}
use Rattle.cap_session.proofs.editing.edit_loaded.Goals as goal

pub returns-in-Ok : goal.returns-in-Ok
returns-in-Ok g c =
    let same : c.script.inside.session.trace ≡ c.reply_all.new.script.state.trace =
    ap (λ (s : Scripting). s.state.trace) c.script.view_is in
    let stays : c.script.inside.session.setting ≡ c.args.script.setting =
    ap (λ (s : Scripting). s.setting) c.script.view_is ∙ c.in-Ok.ensures.setting in
    let of : IsOutcome c.args.script.setting c.script.inside.session.trace c.outcome_of.result = subst
    (λ (p : Setting). IsOutcome p c.script.inside.session.trace c.outcome_of.result) stays c.outcome_of.ensures in
    replied _ _ _ _ _ _ _ c.reply_all.new.script.state tt _ c.in-Ok.ensures.all
    (subst (λ (u : List Entry). IsOutcome c.args.script.setting u c.outcome_of.result) same of)

pub returns : goal.returns
returns g c = stopped _ _ _ _ _ _ _ c.reply_all.new.script.state c.in-Err.stop _ c.in-Err.ensures.all c.from.ensures
