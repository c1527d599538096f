use Rattle.std.proofs.Common.{rules, ◌%◌}
use Rattle.cap_machine.specs.Code.Cells.Parts.{in_node}
use Rattle.cap_machine.proofs.PartsOf.{part_closed}
use Rattle.cap_machine.proofs.cells.node.NodeSubtree.close_from.Goals as goal

pub returns : goal.returns
unfolding in_node
returns g c = λ f has. part_closed (λ part. g.T.Subtree.cell_at part.value) g.row.WIDTH c.args.self.now.deferred
    c.close_all.new.deferred c.args.self.now.parts c.args.fd c.index-self-at.result _ f has.0 (search rules)
    (search rules) c.requires.1 has.1 (c.in_ok-close_part.ensures (f % g.row.WIDTH) has.2) c.close_all.ensures
