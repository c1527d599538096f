use Rattle.cap_summary.proofs.{rules, Resolving.found_whole}
use Rattle.cap_summary.proofs.summary.resolve.Goals as goal

pub returns : goal.returns
returns c = search (rules, found_whole)
