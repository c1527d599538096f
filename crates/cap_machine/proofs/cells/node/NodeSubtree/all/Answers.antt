use Rattle.std.proofs.Common.{◌≡◌, ◌/◌, ◌%◌, ap, ◌∙◌}
use Rattle.std.proofs.lemmas.List.{get_or-replicate}
use Rattle.cap_machine.specs.Code.Cells.Parts.{in_node}
use Rattle.cap_machine.specs.Code.Cells.Deferred.{with_deferred}
use Rattle.cap_machine.specs.declared.cells.deferred.Deferred.{Deferred}
use Rattle.cap_machine.specs.declared.cells.deferred.Deferred.TheVariants.{Nothing}
use Rattle.cap_machine.specs.declared.cell.Cell.{Cell}
use Rattle.cap_machine.proofs.cells.node.NodeSubtree.all.Goals as goal

with_nothing : (m : Deferred) (cell : Cell) → m ≡ Nothing → with_deferred m cell ≡ cell
with_nothing m cell is = ap (λ (m : Deferred). with_deferred m cell) is

pub returns : goal.returns
unfolding in_node
returns g c = λ f has.
    with_nothing _ _ (get_or-replicate 8 (f / g.row.WIDTH) Nothing Nothing has.1)
    ∙ c.in_ok-eight.ensures (f / g.row.WIDTH) (f % g.row.WIDTH) has.1
    ∙ ap (λ tree. g.T.Subtree.cell_at tree (f % g.row.WIDTH)) c.in_ok-part.ensures.ok
    ∙ c.in_ok-all.ensures (f % g.row.WIDTH) has.2
