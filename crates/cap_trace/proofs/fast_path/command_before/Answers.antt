use Rattle.std.proofs.Common.{sym, ◌∙◌}
use Rattle.cap_trace.proofs.FastPathLines.{given, command_before}
use Rattle.cap_trace.proofs.fast_path.command_before.Goals as goal

pub returns : goal.returns
returns c = command_before c.in_ok-part.ensures
    (given (λ w. w.now) c.command_of.result _ _ c.command_of.ensures (sym c.ok.ensures.value ∙ c.in_ok-command.was))
