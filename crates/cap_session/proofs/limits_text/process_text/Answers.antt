use Rattle.std.proofs.Common.{subst}
use Rattle.cap_limits.specs.declared.limits.LimitsBefore.{LimitsBefore}
use Rattle.cap_limits.specs.declared.limits.LimitsBefore.TheVariants as there
use Rattle.cap_limits.specs.LimitsBefore.{AreLimitsBefore}
use Rattle.cap_session.proofs.limits_text.process_text.Goals as goal

pub returns-in_ok-limits_text-in-Limits-clause-text : goal.returns-in_ok-limits_text-in-Limits-clause-text
returns-in_ok-limits_text-in-Limits-clause-text c = record {
  limits = there.Limits c.in-Limits.limits;
  least = subst (λ (limits : LimitsBefore).
      AreLimitsBefore c.args.profile c.args.start.now c.args.lines.now c.args.at limits)
      c.in-Limits.is c.in_ok-limits.ensures;
  there_is_one = λ none. absurd (let no = none in cc);
  is = c.in_ok-limits_text-in-Limits.ensures;
}

pub returns-in_ok-beginning_text-in-Begins-clause-text : goal.returns-in_ok-beginning_text-in-Begins-clause-text
returns-in_ok-beginning_text-in-Begins-clause-text c = record {
  limits = there.Begins c.in-Begins.pid;
  least = subst (λ (limits : LimitsBefore).
      AreLimitsBefore c.args.profile c.args.start.now c.args.lines.now c.args.at limits)
      c.in-Begins.is c.in_ok-limits.ensures;
  there_is_one = λ none. absurd (let no = none in cc);
  is = c.in_ok-beginning_text-in-Begins.ensures;
}
