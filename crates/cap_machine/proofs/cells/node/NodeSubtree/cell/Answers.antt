use Rattle.std.proofs.Common.{rules, ◌/◌, ◌%◌, ◌<◌, length, ap, sym, ◌∙◌}
use Rattle.cap_machine.specs.Code.Cells.Parts.{in_node}
use Rattle.cap_machine.specs.Code.Cells.Deferred.{with_deferred}
use Rattle.cap_machine.proofs.PartsOf.{view}
use Rattle.cap_machine.proofs.cells.node.NodeSubtree.cell.Goals as goal

pub returns : goal.returns
unfolding in_node
returns g c =
    let within : c.args.fd / g.row.WIDTH < length c.args.self.now.parts = search rules in
    c.on.ensures
    ∙ ap (with_deferred _)
    (c.cell.ensures ∙ ap (λ tree. g.T.Subtree.cell_at tree (c.args.fd % g.row.WIDTH)) c.deref.ensures)
    ∙ sym (view (λ part. g.T.Subtree.cell_at part.value) g.row.WIDTH c.args.self.now.deferred c.args.self.now.parts
    c.args.fd c.index-self-at.result within)
