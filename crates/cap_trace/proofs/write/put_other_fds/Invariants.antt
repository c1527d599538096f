use Rattle.std.proofs.Common.{◌≡◌, ◌++◌, map, take}
use Rattle.std.specs.Fmt.{decimal}
use Rattle.cap_trace.specs.Code.Writing.{with_commas}
use Rattle.cap_trace.proofs.write.put_other_fds.Given as goal

abbrev pub invariant-loop-other : goal.invariant-loop-other
invariant-loop-other l = l.out.items ≡ l.initial.out.items ++ with_commas (map decimal (take l.other-index l.others))
