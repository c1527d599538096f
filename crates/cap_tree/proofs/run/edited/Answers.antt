use Rattle.cap_tree.proofs.Runs.{insert-values, set-values, remove-values}
use Rattle.cap_tree.proofs.run.edited.Goals as goal

pub returns-in-Insert : goal.returns-in-Insert
returns-in-Insert g c =
    rw (c.in-Insert.is, ← insert-values c.args.run.now c.args.at c.in-Insert.item.value) c.joined_by.ensures

pub returns-in-Replace : goal.returns-in-Replace
returns-in-Replace g c =
    let within = rw c.in-Replace.is at c.requires.allowed in
    rw (c.in-Replace.is, ← set-values c.args.run.now c.args.at c.in-Replace.item.value within)
    c.joined_by-in-Replace.ensures

pub returns-in-Remove : goal.returns-in-Remove
returns-in-Remove g c = rw (c.in-Remove.is, ← remove-values c.args.run.now c.args.at) c.joined.ensures
