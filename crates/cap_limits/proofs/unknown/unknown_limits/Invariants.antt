use Rattle.std.proofs.Common.{◌≡◌, ◌<◌, ◌^◌, ◌++◌, map}
use Rattle.std.specs.List.{All}
use Rattle.std.specs.BTreeMap.{btree_map_len}
use Rattle.cap_limits.specs.declared.limit.Limit.{Limit}
use Rattle.cap_machine.specs.State.{start_state}
use Rattle.cap_limits.specs.Limits.{row_of}
use Rattle.cap_limits.specs.Code.Unknown.{unknown_rows}
use Rattle.cap_limits.proofs.unknown.unknown_limits.Given as goal

abbrev pub invariant-loop-entry : goal.invariant-loop-entry
invariant-loop-entry l = record {
  rows : map row_of l.limits.items ++ unknown_rows ((start_state l.machine).cell l.pid) l.rest.map.entries
      ≡ unknown_rows ((start_state l.machine).cell l.pid) l.fn.needed.map.entries;
  fds : All (λ (limit : Limit). limit.fd < 2 ^ 32) l.limits.items;
}

abbrev pub decreases-loop-entry : goal.decreases-loop-entry
decreases-loop-entry l = btree_map_len l.rest.map
