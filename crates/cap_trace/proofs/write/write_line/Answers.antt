use Rattle.std.proofs.Common.{subst, ◌∙◌}
use Rattle.cap_trace.specs.Entry.{Entry}
use Rattle.cap_trace.specs.Spelling.{IsProper}
use Rattle.cap_trace.proofs.Canonical.{canon_spells}
use Rattle.cap_trace.proofs.write.write_line.Goals as goal

pub returns-in-Ok-clause-spelled : goal.returns-in-Ok-clause-spelled
returns-in-Ok-clause-spelled c = canon_spells c.args.line.now
    (subst (λ (e : Entry). IsProper e) (c.pid.view_is ∙ c.view.ensures) c.pid.invariant)

pub returns-in-Err-clause-spelled : goal.returns-in-Err-clause-spelled
returns-in-Err-clause-spelled c = canon_spells c.args.line.now
    (subst (λ (e : Entry). IsProper e) (c.pid.view_is ∙ c.view.ensures) c.pid.invariant)
