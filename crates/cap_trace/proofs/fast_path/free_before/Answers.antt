use Rattle.std.proofs.Common.{sym, ◌∙◌}
use Rattle.cap_trace.proofs.FastPathLines.{given, free_before}
use Rattle.cap_trace.proofs.fast_path.free_before.Goals as goal

pub returns : goal.returns
returns c = free_before c.in_ok-part.ensures
    (given (λ w. w.now) c.free_of.result _ _ c.free_of.ensures (sym c.ok.ensures.value ∙ c.in_ok-args.was))
