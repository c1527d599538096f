use Rattle.std.proofs.Common.{◌≡◌, ◌++◌, take}
use Rattle.cap_session.specs.Explaining.{denial_lines}
use Rattle.cap_session.proofs.explained.put_denials.Given as goal

abbrev pub invariant-loop-denial : goal.invariant-loop-denial
invariant-loop-denial l = l.out.items ≡ l.fn.out.items ++ denial_lines (take l.denial-index l.denials)
