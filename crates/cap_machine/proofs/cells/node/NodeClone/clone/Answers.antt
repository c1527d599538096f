use Rattle.std.proofs.Common.{◌≡◌, ap, ◌/◌, ◌%◌}
use Rattle.std.specs.List.{slice_index_or}
use Rattle.cap_machine.specs.Code.Cells.Parts.{in_node}
use Rattle.cap_machine.specs.Code.Cells.Deferred.{with_deferred}
use Rattle.cap_machine.specs.declared.cells.deferred.Deferred.TheVariants.{Nothing}
use Rattle.cap_machine.proofs.PartsOf.{asked_alike}
use Rattle.cap_machine.proofs.cells.node.NodeClone.clone.Goals as goal

pub returns : goal.returns
unfolding in_node
returns g c = record {
  cases = λ f.
      ap (with_deferred (slice_index_or c.args.self.now.deferred (f / g.row.WIDTH) Nothing))
      (asked_alike (λ x y. y.value ≡ x.value) (λ part. g.T.Subtree.cell_at part.value (f % g.row.WIDTH))
      (λ x y e. ap (λ tree. g.T.Subtree.cell_at tree (f % g.row.WIDTH)) e)
      c.args.self.now.parts _ (f / g.row.WIDTH) c.in_ok-clone.ensures.cases.whole);
}
