use Rattle.std.proofs.Common.{ap, sym, ◌∙◌, refl}
use Rattle.cap_trace.specs.declared.calls.FdCall.{FdCall}
use Rattle.cap_machine.specs.declared.rule.Effect.TheVariants.{Keep}
use Rattle.cap_limits.specs.Code.LiveRights.{IsRule}
use Rattle.cap_machine.specs.Steps.{step}
use Rattle.cap_machine.specs.Touch.{fd_touch}
use Rattle.cap_limits.proofs.LineRules.{rule_on_fd}
use Rattle.cap_limits.proofs.live.LiveRights.pass_on_fd.Goals as goal

pub returns-in-Close : goal.returns-in-Close
returns-in-Close c =
    let rule : IsRule (step c.args.profile c.args.line.now) c.line.inside.pid c.requirement_of_fd_call-requirement.result
    c.effect_of_close.result =
    rule_on_fd c.args.profile c.args.line.now _ c.requirement_of_fd_call-requirement.result c.effect_of_close.result c.args.call c.args.fd
    c.args.answer.now c.requires c.line.view_is c.requirement_of_fd_call-requirement.ensures
    (λ me p f. c.effect_of_close.ensures.cells me p f
    ∙ ap (λ (k : FdCall). fd_touch c.args.profile k c.args.fd c.args.answer.now me p f) (sym c.in-Close.is))
    c.effect_of_close.ensures.modes in
    record {
      rights = c.pass_rule.ensures.rights (step c.args.profile c.args.line.now) rule;
      blocked = c.pass_rule.ensures.blocked (step c.args.profile c.args.line.now) rule;
    }

pub returns-in_default : goal.returns-in_default
returns-in_default c =
    let rule : IsRule (step c.args.profile c.args.line.now) c.line.inside.pid c.requirement_of_fd_call-requirement.result Keep =
    rule_on_fd c.args.profile c.args.line.now _ c.requirement_of_fd_call-requirement.result Keep c.args.call c.args.fd
    c.args.answer.now c.requires c.line.view_is c.requirement_of_fd_call-requirement.ensures
    (λ me p f. sym (c.if-keeps_cells.ensures refl c.args.profile c.args.fd c.args.answer.now me p f)) (λ me p. refl) in
    record {
      rights = c.pass_rule-in_default.ensures.rights (step c.args.profile c.args.line.now) rule;
      blocked = c.pass_rule-in_default.ensures.blocked (step c.args.profile c.args.line.now) rule;
    }
