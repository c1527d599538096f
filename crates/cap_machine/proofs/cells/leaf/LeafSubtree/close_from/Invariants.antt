use Rattle.std.proofs.Common.{◌≡◌, ℕ, ◌<◌, ◌&&◌, nat_le, nat_lt, if◌then◌else◌}
use Rattle.cap_machine.specs.Code.Cells.Parts.{in_leaf}
use Rattle.cap_machine.specs.declared.cell.Cell.TheVariants.{Closed}
use Rattle.cap_machine.proofs.cells.leaf.LeafSubtree.close_from.Given as goal

abbrev pub invariant-loop-k : goal.invariant-loop-k
invariant-loop-k g l = (f : ℕ) → f < g.row.N
    → in_leaf l.self f ≡ (if nat_le l.fn.fd f && nat_lt f l.k then Closed else in_leaf l.initial.self f)
