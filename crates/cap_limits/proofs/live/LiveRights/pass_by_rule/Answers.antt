use Rattle.cap_limits.specs.Code.LiveRights.{IsRule}
use Rattle.cap_machine.specs.Steps.{step}
use Rattle.cap_limits.proofs.LineRules.{rule_of_line}
use Rattle.cap_limits.proofs.live.LiveRights.pass_by_rule.Goals as goal

pub returns : goal.returns
returns c =
    let rule : IsRule (step c.args.profile c.args.line.now) c.line.inside.pid c.requirement_of_line-requirement.result
    c.effect_of_line-effect.result =
    rule_of_line c.args.profile c.args.line.now _ c.requirement_of_line-requirement.result c.effect_of_line-effect.result
    c.line.view_is c.requirement_of_line-requirement.ensures c.effect_of_line-effect.ensures.cells
    c.effect_of_line-effect.ensures.modes in
    record {
      rights = c.pass_rule.ensures.rights (step c.args.profile c.args.line.now) rule;
      blocked = c.pass_rule.ensures.blocked (step c.args.profile c.args.line.now) rule;
    }
