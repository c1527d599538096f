use Rattle.cap_summary.proofs.{SortedFound.rises_too}
use Rattle.cap_summary.proofs.sorted.map.MapClone.clone.Goals as goal

pub invariant_of-result : goal.invariant_of-result
invariant_of-result g c = rises_too g.V.Clone.is_clone 0 c.self.inside.entries.items c.in_ok-entries.entries.items
    c.in_ok-entries.ensures.cases.0 c.self.invariant
