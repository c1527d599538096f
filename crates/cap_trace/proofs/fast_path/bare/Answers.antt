use Rattle.std.proofs.Common.{refl, []}
use Rattle.cap_trace.proofs.FastPathLines.{call_after}
use Rattle.cap_trace.proofs.fast_path.bare.Goals as goal

pub returns : goal.returns
returns c = call_after refl (record { texts = []; args = tt; parts = c.in_ok-tail.ensures }) c.in_ok-answer.ensures
