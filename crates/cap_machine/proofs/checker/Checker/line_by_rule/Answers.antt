use Rattle.std.proofs.Common.{◌+◌, refl, ap, sym, subst}
use Rattle.cap_machine.specs.Code.Checked.{CheckerState, IsAsked}
use Rattle.cap_machine.proofs.OneMore.{asked_more}
use Rattle.cap_machine.proofs.checker.Checker.line_by_rule.Goals as goal

pub returns : goal.returns
returns c = record {
  checked = λ question profile s trace before.
      asked_more _ _ c.self.inside.table c.apply_by_rule.new.self c.args.line.now question profile s trace
      refl refl refl refl refl
      (ap (λ n. c.self.inside.said + n) c.in_ok-more.ensures.count)
      c.in_ok-more.ensures.text c.in_ok-apply_by_rule.ensures
      (subst (λ (r : CheckerState). IsAsked r question profile s trace) (sym c.self.view_is) before);
}
