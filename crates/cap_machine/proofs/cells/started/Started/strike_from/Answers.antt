use Rattle.std.proofs.Common.{rules, nat_lt}
use Rattle.cap_machine.proofs.StartedLists.{kept, below}
use Rattle.cap_machine.proofs.cells.started.Started.strike_from.Goals as goal

pub returns : goal.returns
returns c = λ cell f.
    let small = c.args.self.now.small.items in
    let large = c.args.self.now.large.items in
    below small large _ _ c.args.fd f _ cell (search (rules, kept (λ g. nat_lt g c.args.fd) small))
    (search (rules, kept (λ g. nat_lt g c.args.fd) large))
