use Rattle.std.proofs.Common.{◌-◌, ◌≤◌}
use Rattle.cap_machine.specs.Code.Cells.DeferredFree.{left_at_most}
use Rattle.cap_machine.proofs.cells.deferred_free.DeferredFree.free_next.Given as goal

-- each turn so far freed a part, if there was one
abbrev pub invariant-loop : goal.invariant-loop
invariant-loop l = left_at_most l.self ≤ left_at_most l.initial.self - l.counter
