use Rattle.cap_summary.proofs.{Resolving.later-none}
use Rattle.cap_summary.specs.{Found, List, Stands.summed_up, check, start_state}
use Rattle.cap_summary.proofs.summary.report_range.Goals as goal

pub returns-then-are_at_most-clause-found : goal.returns-then-are_at_most-clause-found
returns-then-are_at_most-clause-found c =
    let all : List Found = check (start_state c.args.start.now) (summed_up c.args.summary.now) in
    rw (c.new.ensures.items, c.deref-node.ensures, later-none all) at c.in_ok-resolve-in-Some.ensures.found
