use Rattle.std.proofs.Common.{rules, ◌==◌, not}
use Rattle.cap_machine.proofs.StartedLists.{kept, without}
use Rattle.cap_machine.proofs.cells.started.Started.strike.Goals as goal

pub returns : goal.returns
returns c = λ cell f.
    let small = c.args.self.now.small.items in
    let large = c.args.self.now.large.items in
    without small large _ _ c.args.fd f _ cell (search (rules, kept (λ g. not (g == c.args.fd)) small))
    (search (rules, kept (λ g. not (g == c.args.fd)) large))
