use Rattle.std.proofs.Common.{rules, ◌%◌}
use Rattle.cap_machine.specs.Code.Cells.Parts.{in_node}
use Rattle.cap_machine.proofs.PartsOf.{part_written}
use Rattle.cap_machine.proofs.cells.node.NodeSubtree.write.Goals as goal

pub returns : goal.returns
unfolding in_node
returns g c = λ f has. part_written (λ part. g.T.Subtree.cell_at part.value) g.row.WIDTH c.args.self.now.deferred
    c.args.self.now.parts c.args.fd c.args.cell c.index-self-at.result _ f
    (search rules) (search rules) c.requires.1 has.1 (c.in_ok-write_part.ensures (f % g.row.WIDTH) has.2)
