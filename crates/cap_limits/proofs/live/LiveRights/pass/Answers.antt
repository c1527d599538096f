use Rattle.std.proofs.Common.{◌∷◌, subst}
use Rattle.std.proofs.lemmas.Result.{on_ok_weaker}
use Rattle.cap_trace.specs.Entry.{Entry}
use Rattle.cap_machine.specs.Steps.{step}
use Rattle.cap_limits.specs.Code.LiveRights.{AreLive, AreBlocked}
use Rattle.cap_limits.proofs.live.LiveRights.pass.Goals as goal

pub returns-clause-rights : goal.returns-clause-rights
returns-clause-rights c =
    on_ok_weaker c.pass_view.result
    (λ is later live. subst (λ (e : Entry). AreLive c.pass_view.new.self (step c.args.profile e ∷ later)) c.view.ensures
    (is later live))
    c.pass_view.ensures.rights

pub returns-clause-blocked : goal.returns-clause-blocked
returns-clause-blocked c =
    on_ok_weaker c.pass_view.result
    (λ is later first. subst (λ (e : Entry). AreBlocked c.pass_view.new.self c.args.at (step c.args.profile e ∷ later))
    c.view.ensures (is later first))
    c.pass_view.ensures.blocked
