use Rattle.std.proofs.Common.{refl}
use Rattle.cap_trace.proofs.FastPathLines.{last, next, call_after}
use Rattle.cap_trace.proofs.fast_path.mmap.Goals as goal

pub returns : goal.returns
returns c = call_after refl
    (next c.in_ok-fd.ensures (next c.in_ok-protection.ensures (last c.in_ok-mapping.ensures))) c.in_ok-answer.ensures
