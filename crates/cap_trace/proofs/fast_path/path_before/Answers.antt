use Rattle.std.proofs.Common.{arith}
use Rattle.cap_trace.proofs.FastPathLines.{path_before}
use Rattle.cap_trace.proofs.fast_path.path_before.Goals as goal

pub returns : goal.returns
returns c = path_before c.in_ok-end.end c.in_ok-inside.ensures (omega (arith, c.in_ok-end.ensures.1))
    c.in_ok-end.ensures.2 c.in_ok-after_quote.ensures c.in_ok-rest.ensures
