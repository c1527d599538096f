use Rattle.std.proofs.Common.{◌≡◌, drop}
use Rattle.cap_trace.specs.Code.Making.{all_rise}
use Rattle.cap_trace.proofs.making.rise.Given as goal

abbrev pub invariant-loop-fd : goal.invariant-loop-fd
invariant-loop-fd l = all_rise l.low (drop l.fd-index l.fds) ≡ all_rise 0 l.fds
