use Rattle.std.proofs.Common.{refl}
use Rattle.cap_trace.proofs.FastPathLines.{last, next, call_after}
use Rattle.cap_trace.proofs.fast_path.at_flags.Goals as goal

pub returns : goal.returns
returns c = call_after refl
    (next c.in_ok-dir.ensures (next c.in_ok-path.ensures (last c.in_ok-flags.ensures))) c.in_ok-answer.ensures
