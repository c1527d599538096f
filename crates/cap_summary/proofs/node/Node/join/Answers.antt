use Rattle.cap_summary.proofs.{Knowing.knows_both}
use Rattle.cap_summary.proofs.node.Node.join.Goals as goal

pub of_parts-requires-2-clause-knows : goal.of_parts-requires-2-clause-knows
of_parts-requires-2-clause-knows c = let parts = c.in-Some in knows_both _ _ c.in_ok-known.known _ _
    (rw c.deref-3.ensures at parts.ensures.first.knows) (rw c.deref-4.ensures at parts.ensures.second.knows)
    c.in_ok-known.ensures
