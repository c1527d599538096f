use Rattle.std.proofs.Common.{ap, ◌∙◌}
use Rattle.cap_machine.specs.Code.Cells.Parts.{in_leaf}
use Rattle.cap_machine.specs.Code.Cells.Deferred.{with_deferred}
use Rattle.cap_machine.proofs.Leaves.{done_more}
use Rattle.cap_machine.proofs.cells.leaf.LeafSubtree.apply_deferred.Goals as goal

pub loop-k-preserved : goal.loop-k-preserved
loop-k-preserved g c = λ f within. done_more (with_deferred c.args.deferred) (in_leaf c.args.self.now)
    (in_leaf c.loop-k.self)
    (in_leaf c.put.new.self f) c.on-cell.result c.loop-k.k f (c.put.ensures f)
    (c.on-cell.ensures ∙ ap (with_deferred c.args.deferred) c.at.ensures) (c.loop-k.invariant f within)
    (c.loop-k.invariant c.loop-k.k c.loop-k-test.true)
