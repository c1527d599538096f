use Rattle.std.proofs.Common.{codes, refl, sym, ◌∙◌}
use Rattle.cap_machine.proofs.LastFlag.{last_flag}
use Rattle.cap_machine.proofs.effects.closes_on_exec.Goals as goal

pub returns-then-ends_with : goal.returns-then-ends_with
returns-then-ends_with c =
    let is = c.if-ends_with.true in
    is ∙ sym (last_flag c.args.flags.now (codes "O_CLOEXEC") refl (sym c.ends_with.ensures.value ∙ is))
