use Rattle.cap_summary.{specs.Sorted.IsAt, proofs.SortedFound.found-remove, proofs.SortedFound.found_at, proofs.rules}
use Rattle.cap_summary.proofs.sorted.map.Map.remove.Goals as goal

pub returns-in-Ok-clause-others : goal.returns-in-Ok-clause-others
returns-in-Ok-clause-others g c k other =
    let at : IsAt c.args.self.now c.args.key c.in-Ok.at = search rules in
    let kept = found-remove c.args.self.now c.args.key c.in-Ok.at at k other in
    rw (c.remove.ensures.items, c.self.view_is) kept

pub returns-in-Ok-clause-value : goal.returns-in-Ok-clause-value
returns-in-Ok-clause-value g c =
    let at : IsAt c.args.self.now c.args.key c.in-Ok.at = search rules in
    let found = found_at 0 c.args.self.now c.args.key c.in-Ok.at c.remove.result (search rules) at in
    cc (found, c.remove.ensures.value, c.self.view_is)
