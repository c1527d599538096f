use Rattle.std.proofs.Common.{◌≡◌, ◌++◌, map, take}
use Rattle.cap_trace.specs.Code.Writing.{shown_text, with_commas}
use Rattle.cap_trace.proofs.write.put_others.Given as goal

abbrev pub invariant-loop-other : goal.invariant-loop-other
invariant-loop-other l = l.out.items ≡ l.initial.out.items ++ with_commas (map shown_text (take l.other-index l.others))
