use Rattle.std.proofs.Common.{◌≡◌, ◌++◌, take, map}
use Rattle.cap_machine.specs.Denials.{denied_at}
use Rattle.cap_machine.proofs.denying.add_denials.Given as goal

abbrev pub invariant-loop-denial : goal.invariant-loop-denial
invariant-loop-denial l = l.all.items ≡ l.fn.all.items ++ map (denied_at l.fn.at) (take l.denial-index l.found)
