use Rattle.std.proofs.Common.{◌∷◌, subst}
use Rattle.std.proofs.lemmas.Result.{on_ok_weaker}
use Rattle.cap_trace.specs.Entry.{Entry}
use Rattle.cap_machine.specs.Steps.{step}
use Rattle.cap_limits.specs.Code.LiveRights.{AreLive}
use Rattle.cap_limits.proofs.makers.pass_line.Goals as goal

pub returns-clause-live : goal.returns-clause-live
returns-clause-live c =
    on_ok_weaker c.pass_view.result
    (λ is later live. subst (λ (e : Entry). AreLive c.pass_view.new.self (step c.args.profile e ∷ later))
    c.view-view.ensures (is later live))
    c.pass_view.ensures.rights
