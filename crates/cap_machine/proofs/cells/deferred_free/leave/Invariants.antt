use Rattle.std.proofs.Common.{◌+◌, ◌≤◌, length}
use Rattle.std.specs.Vec.{vec_len}
use Rattle.cap_machine.proofs.cells.deferred_free.leave.Given as goal

-- no more parts were added than the node's that were looked at
abbrev pub invariant-loop-part : goal.invariant-loop-part
invariant-loop-part g l = vec_len l.parts ≤ vec_len l.initial.parts + length l.yielded
