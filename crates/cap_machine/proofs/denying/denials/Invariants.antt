use Rattle.std.proofs.Common.{take}
use Rattle.cap_machine.specs.Denials.{denied, denied_at}
use Rattle.cap_machine.specs.State.{start_state}
use Rattle.cap_machine.proofs.OneMore.{IsTold}
use Rattle.cap_machine.proofs.denying.denials.Given as goal

abbrev pub invariant-loop-i : goal.invariant-loop-i
invariant-loop-i l =
    IsTold denied_at denied l.fn.profile (start_state l.start) (take l.i l.lines) l.table l.all.items
