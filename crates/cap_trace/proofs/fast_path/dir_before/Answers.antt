use Rattle.std.proofs.Common.{sym, ◌∙◌}
use Rattle.cap_trace.proofs.FastPathLines.{given, dir_before}
use Rattle.cap_trace.proofs.fast_path.dir_before.Goals as goal

pub returns : goal.returns
returns c = dir_before c.in_ok-part.ensures
    (given (λ w. w) c.dir_of.result _ _ c.dir_of.ensures (sym c.ok.ensures.value ∙ c.in_ok-dir.was))
