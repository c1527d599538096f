use Rattle.std.proofs.Common.{◌≡◌, ℕ}
use Rattle.std.specs.BTreeMap.{btree_map_len}
use Rattle.cap_rights.specs.Rights.{join}
use Rattle.cap_machine.specs.declared.cell.OnExec.{OnExec}
use Rattle.cap_limits.specs.Code.Wanted.{rights_of}
use Rattle.cap_limits.proofs.live.fd_rights.FdRights.add_all.Given as goal

abbrev pub invariant-loop-entry : goal.invariant-loop-entry
invariant-loop-entry l = (f : ℕ) (x : OnExec)
    → join (rights_of l.self f x) (rights_of l.other f x) ≡ join (rights_of l.fn.self f x) (rights_of l.fn.other f x)

abbrev pub decreases-loop-entry : goal.decreases-loop-entry
decreases-loop-entry l = btree_map_len l.other.map
