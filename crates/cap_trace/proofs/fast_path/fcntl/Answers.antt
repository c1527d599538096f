use Rattle.std.proofs.Common.{refl}
use Rattle.cap_trace.proofs.FastPathLines.{last, next, call_after}
use Rattle.cap_trace.proofs.fast_path.fcntl.Goals as goal

pub returns-in_ok-answer-in-Some : goal.returns-in_ok-answer-in-Some
returns-in_ok-answer-in-Some c = call_after refl
    (next c.in_ok-fd.ensures (next c.in-Some.ensures (last c.in_ok-flags-in-Some.ensures)))
    c.in_ok-answer-in-Some.ensures

pub returns-in_ok-answer-in-None : goal.returns-in_ok-answer-in-None
returns-in_ok-answer-in-None c = call_after refl
    (next c.in_ok-fd.ensures (last c.in_ok-command-in-None.ensures))
    (rw c.fcntl_kind.ensures at c.in_ok-answer-in-None.ensures)
