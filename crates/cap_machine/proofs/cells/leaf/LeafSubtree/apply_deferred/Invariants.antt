use Rattle.std.proofs.Common.{◌≡◌, ℕ, ◌<◌, nat_lt, if◌then◌else◌}
use Rattle.cap_machine.specs.Code.Cells.Parts.{in_leaf}
use Rattle.cap_machine.specs.Code.Cells.Deferred.{with_deferred}
use Rattle.cap_machine.proofs.cells.leaf.LeafSubtree.apply_deferred.Given as goal

abbrev pub invariant-loop-k : goal.invariant-loop-k
invariant-loop-k g l = (f : ℕ) → f < g.row.N → in_leaf l.self f
    ≡ (if nat_lt f l.k then with_deferred l.deferred (in_leaf l.initial.self f) else in_leaf l.initial.self f)
