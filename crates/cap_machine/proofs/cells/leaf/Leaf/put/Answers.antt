use Rattle.std.proofs.Common.{rules}
use Rattle.cap_machine.specs.Code.Cells.Parts.{in_leaf}
use Rattle.cap_machine.proofs.Leaves.{put_in}
use Rattle.cap_machine.proofs.cells.leaf.Leaf.put.Goals as goal

pub returns : goal.returns
unfolding in_leaf
returns g c = λ f. put_in c.args.self.now.kinds c.args.self.now.rights c.args.place c.args.cell c.of.result
    c.rights_of.result f (search rules) (search rules) c.of.ensures c.rights_of.ensures
