use Rattle.std.proofs.Common.{◌≡◌, ◌<◌, ◌^◌, ◌++◌, map, length}
use Rattle.std.specs.List.{All}
use Rattle.cap_limits.specs.declared.limit.Limit.{Limit}
use Rattle.cap_machine.specs.State.{start_state}
use Rattle.cap_limits.specs.Code.Wanted.{wanted}
use Rattle.cap_limits.specs.Limits.{row_of}
use Rattle.cap_limits.specs.Code.Rows.{held_rows}
use Rattle.cap_limits.proofs.limit.limits_among.Given as goal

abbrev pub invariant-loop-fd : goal.invariant-loop-fd
invariant-loop-fd l = record {
  rows : map row_of l.limits.items ++ held_rows (start_state l.machine) (wanted l.live) l.pid l.rest.keys
      ≡ held_rows (start_state l.machine) (wanted l.live) l.pid l.fn.fds.keys;
  fds : All (λ (limit : Limit). limit.fd < 2 ^ 32) l.limits.items;
}

abbrev pub decreases-loop-fd : goal.decreases-loop-fd
decreases-loop-fd l = length l.rest.keys
