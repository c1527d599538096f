use Rattle.std.proofs.Common.{◌≡◌, ℕ, ◌<◌}
use Rattle.std.specs.BTreeMap.{btree_map_len}
use Rattle.cap_machine.specs.declared.cell.OnExec.{OnExec}
use Rattle.cap_limits.specs.Code.Wanted.{rights_of}
use Rattle.cap_limits.proofs.live.fd_rights.FdRights.clear_from.Given as goal

abbrev pub invariant-loop-self : goal.invariant-loop-self
invariant-loop-self l = (f : ℕ) (x : OnExec) → f < l.fd → rights_of l.self f x ≡ rights_of l.fn.self f x

abbrev pub decreases-loop-self : goal.decreases-loop-self
decreases-loop-self l = btree_map_len l.self.map
