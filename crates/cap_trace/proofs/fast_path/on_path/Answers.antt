use Rattle.std.proofs.Common.{refl}
use Rattle.cap_trace.proofs.FastPathLines.{last, call_after}
use Rattle.cap_trace.proofs.fast_path.on_path.Goals as goal

pub returns : goal.returns
returns c = call_after refl (last c.in_ok-path.ensures) c.in_ok-answer.ensures
