use Rattle.std.proofs.Common.{rules, ◌≡◌, ◌==◌, false, arith}
use Rattle.std.proofs.lemmas.Bool.Decides.{nat_tests}
use Rattle.cap_machine.proofs.WrittenCells.{not_there}
use Rattle.cap_machine.proofs.cells.written_cells.WrittenCells.lists.Goals as goal

pub loop-one-preserved : goal.loop-one-preserved
loop-one-preserved c =
    let other : (c.args.fd == c.one-item.result.fd) ≡ false = grind (arith, nat_tests, c.if-one-fd.false) in
    λ below.
    not_there below c.deref-one-items.result.now c.loop-one.one-index c.args.fd c.one-item.result (search rules)
    (search rules) (c.loop-one.invariant below)
